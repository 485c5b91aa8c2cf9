use Rattle.blocks.specs.Sums.{column}
use Rattle.numbers.specs.Pairs.{Rowed}
use Rattle.entries.proofs.write_amounts.Given as goal

abbrev pub invariant-loop-k : goal.invariant-loop-k
invariant-loop-k l =
    Rowed (column l.a.shifts) (column l.a.peels) l.n l.initial.row l.k l.row
