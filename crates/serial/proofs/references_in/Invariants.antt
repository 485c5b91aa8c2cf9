use Rattle.serial.proofs.Walks.{Counted}
use Rattle.serial.proofs.references_in.Given as goal

abbrev pub invariant-loop-row : goal.invariant-loop-row
invariant-loop-row l = Counted l.store l.from l.past l.row l.n
