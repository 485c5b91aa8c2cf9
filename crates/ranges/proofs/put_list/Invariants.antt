use Rattle.blocks.specs.Sums.{column}
use Rattle.ranges.specs.Code.{range_of}
use Rattle.ranges.proofs.Laws.{Filled}
use Rattle.ranges.proofs.put_list.Given as goal

abbrev pub invariant-loop-k : goal.invariant-loop-k
invariant-loop-k l = Filled l.ranges l.k (range_of l.phase l.a l.store l.b) (column l.a.shifts) l.sum
