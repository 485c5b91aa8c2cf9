use Rattle.plain.proofs.Laws.{LoopsLeft}
use Rattle.plain.proofs.run_loops.Given as goal

abbrev pub invariant-loop-k : goal.invariant-loop-k
invariant-loop-k l = LoopsLeft l.table.store.now l.table.bases.now l.initial.memory l.loops l.k l.memory
