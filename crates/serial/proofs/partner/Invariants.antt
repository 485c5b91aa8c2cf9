use Prim.Native.Nat.{◌+◌}
use Rattle.serial.proofs.Walks.{Passed}
use Rattle.serial.proofs.partner.Given as goal

-- `partner` meets its contract. The invariant: no row before `other` collides with the first one.
abbrev pub invariant-loop-other : goal.invariant-loop-other
invariant-loop-other l = Passed l.store l.rows.first l.rows.last l.x (l.row + 1) l.rows.past l.other
