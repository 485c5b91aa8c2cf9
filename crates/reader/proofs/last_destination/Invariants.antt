use Prim.Native.Nat.{◌-◌}
use Rattle.reader.specs.Rows.{NoneBehind}
use Rattle.reader.proofs.last_destination.Given as goal

abbrev pub invariant-loop-r : goal.invariant-loop-r
invariant-loop-r l = NoneBehind l.store l.k (l.r - 1)
