use Rattle.bodies.proofs.Work.{RowsLeft}
use Rattle.bodies.proofs.Waiting.work_rows.Given as goal

abbrev pub invariant-loop-row : goal.invariant-loop-row
invariant-loop-row l =
    RowsLeft l.table.bases.now l.i l.memory l.table.store.now l.from l.past (record { values = l.initial.values; count = l.initial.count }) l.row (record { values = l.values; count = l.count })
