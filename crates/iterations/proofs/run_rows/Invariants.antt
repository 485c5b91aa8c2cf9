use Prim.Native.Nat.{◌-◌}
use Rattle.iterations.proofs.Laws.{RowsLeft}
use Rattle.iterations.proofs.run_rows.Given as goal

abbrev pub invariant-loop-row : goal.invariant-loop-row
invariant-loop-row l = RowsLeft l.table.store.now l.table.bases.now l.initial.row l.past l.i l.initial.memory l.row l.memory

abbrev pub decreases-loop-row : goal.decreases-loop-row
decreases-loop-row l = l.past - l.row
