use Rattle.serial.proofs.Walks.{LoopInv}
use Rattle.serial.proofs.check_loops.Given as goal

abbrev pub invariant-loop-k : goal.invariant-loop-k
invariant-loop-k l = LoopInv l.store l.loops l.k
