use Rattle.reader.specs.Store.{loops_in}
use Rattle.ranges.specs.Code.{range_of}
use Rattle.entries.specs.Entries.{empty_as_zero}
use Rattle.numbers.specs.Pairs.{Rowed}
use Rattle.entries.proofs.write_ranges.Given as goal

abbrev pub invariant-loop-k : goal.invariant-loop-k
invariant-loop-k l =
    Rowed (λ j. (empty_as_zero (range_of l.phase l.a l.store l.b j)).from) (λ j. (empty_as_zero (range_of l.phase l.a l.store l.b j)).past) (loops_in l.store) l.initial.row l.k l.row
