use Rattle.serial.proofs.Walks.{Alone}
use Rattle.serial.proofs.partner_or_destination.Given as goal

-- `partner_or_destination` meets its contract. The invariant: the rows before `other` are reads that do not collide with the first one.
abbrev pub invariant-loop-other : goal.invariant-loop-other
invariant-loop-other l = Alone l.store l.rows.first l.rows.last l.x l.rows.from l.rows.past l.other
