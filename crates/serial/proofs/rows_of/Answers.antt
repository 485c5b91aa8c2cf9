use native.Mathlib.Omega.{arith}
use Rattle.serial.proofs.Walks.{rows-known, known}
use Rattle.serial.proofs.rows_of.Goals as goal

pub start_at-requires : goal.start_at-requires
start_at-requires c = omega (arith, rows-known c.args.store.now c.requires.0 c.args.k c.requires.1)

pub overflow_add-k : goal.overflow_add-k
overflow_add-k c = omega (arith, rows-known c.args.store.now c.requires.0 c.args.k c.requires.1)

pub start_at-requires-2 : goal.start_at-requires-2
start_at-requires-2 c = omega (arith, rows-known c.args.store.now c.requires.0 c.args.k c.requires.1)

pub first_at-requires : goal.first_at-requires
first_at-requires c = (rows-known c.args.store.now c.requires.0 c.args.k c.requires.1).0

pub last_at-requires : goal.last_at-requires
last_at-requires c = (rows-known c.args.store.now c.requires.0 c.args.k c.requires.1).0

pub returns-clause-known : goal.returns-clause-known
returns-clause-known c =
    rw (c.start_at.ensures, c.start_at-2.ensures, c.first_at.ensures, c.last_at.ensures) (known c.args.store.now c.requires.0 c.args.k c.requires.1)
