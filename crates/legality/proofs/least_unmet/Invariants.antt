use Rattle.legality.proofs.Laws.{NoneFromOf}
use Rattle.legality.proofs.least_unmet.Given as goal

abbrev pub invariant-loop-j : goal.invariant-loop-j
invariant-loop-j l = NoneFromOf l.store l.a l.j
