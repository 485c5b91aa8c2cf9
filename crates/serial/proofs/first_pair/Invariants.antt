use Rattle.serial.proofs.Walks.{Lower}
use Rattle.serial.proofs.first_pair.Given as goal

-- `first_pair` meets its contract. The invariant: no row before `row` has a partner.
abbrev pub invariant-loop-row : goal.invariant-loop-row
invariant-loop-row l = Lower l.store l.rows.first l.rows.last l.rows.from l.rows.past l.row
