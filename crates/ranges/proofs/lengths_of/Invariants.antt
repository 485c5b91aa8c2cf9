use Rattle.ranges.proofs.Laws.{Summed}
use Rattle.ranges.proofs.lengths_of.Given as goal

abbrev pub invariant-loop-k : goal.invariant-loop-k
invariant-loop-k l = Summed l.a l.store 0 l.b l.k l.fused × Summed l.a l.store 1 l.b l.k l.peeled
