use Rattle.sweeps.specs.Rows.{SetsLeft}
use Rattle.sweeps.proofs.sets_of.Given as goal

abbrev pub invariant-loop-row : goal.invariant-loop-row
invariant-loop-row l = SetsLeft l.store l.k l.row l.s
