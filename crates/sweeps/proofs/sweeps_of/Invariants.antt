use Rattle.sweeps.proofs.Walks.{LoopInv}
use Rattle.sweeps.proofs.sweeps_of.Given as goal

abbrev pub invariant-loop-k : goal.invariant-loop-k
invariant-loop-k l = LoopInv l.store l.k-end l.k l.s
