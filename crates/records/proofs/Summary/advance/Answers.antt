use native.Mathlib.Omega.{arith}
use Rattle.records.proofs.Ways.{operands-one}
use Rattle.records.proofs.Summary.advance.Goals as goal

pub overflow_add-self-in-Operation : goal.overflow_add-self-in-Operation
overflow_add-self-in-Operation c = omega (arith, operands-one c.in-Operation.o, c.operands_of.ensures)
