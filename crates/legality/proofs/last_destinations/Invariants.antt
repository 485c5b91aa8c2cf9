use Rattle.legality.proofs.Laws.{LastsTo}
use Rattle.legality.proofs.last_destinations.Given as goal

abbrev pub invariant-loop-k : goal.invariant-loop-k
invariant-loop-k l = LastsTo l.store l.lasts l.k
