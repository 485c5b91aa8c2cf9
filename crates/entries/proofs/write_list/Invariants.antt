use Rattle.ranges.specs.Code.{list_of}
use Rattle.entries.proofs.Laws.{loop_at, index_at}
use Rattle.numbers.specs.Pairs.{Rowed}
use Rattle.entries.proofs.write_list.Given as goal

abbrev pub invariant-loop-n : goal.invariant-loop-n
invariant-loop-n l =
    Rowed (loop_at (list_of l.ranges l.loops l.phase)) (index_at (list_of l.ranges l.loops l.phase)) l.size l.initial.row l.n l.row
