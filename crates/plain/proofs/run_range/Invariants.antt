use Rattle.plain.proofs.Laws.{RangeLeft}
use Rattle.plain.proofs.run_range.Given as goal

abbrev pub invariant-loop-i : goal.invariant-loop-i
invariant-loop-i l = RangeLeft l.table.store.now l.table.bases.now l.from l.past l.first l.last l.initial.memory l.i l.memory
