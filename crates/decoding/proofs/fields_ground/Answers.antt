use Rattle.decoding.proofs.fields_ground.Goals as goal

pub returns-in-Array : goal.returns-in-Array
returns-in-Array c = rw c.in-Array.is (c.array_tests.ensures c.args.lens.now)

pub returns-in-Constant : goal.returns-in-Constant
returns-in-Constant c = rw c.in-Constant.is (c.constant_tests.ensures _ c.args.lens.now)

pub returns-in-Operation : goal.returns-in-Operation
returns-in-Operation c = rw c.in-Operation.is (c.operation_tests.ensures c.args.lens.now)
