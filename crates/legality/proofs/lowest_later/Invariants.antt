use Rattle.legality.proofs.Laws.{NoneToOf}
use Rattle.legality.proofs.lowest_later.Given as goal

abbrev pub invariant-loop-k : goal.invariant-loop-k
invariant-loop-k l = NoneToOf l.store l.a l.j l.k
