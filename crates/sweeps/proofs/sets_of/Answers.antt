use native.Mathlib.Omega.{arith}
use lib.Dec.{eqb}
use mathlib.Core.Bool.{Bool, ◌||◌}
use mathlib.Core.Path.{ap, ◌∙◌}
use Rattle.marks.specs.Marks.{marked}
use Rattle.reader.specs.Store.{kind_at, array_at}
use Rattle.sweeps.proofs.Rows.{sets-start, sets-next, sets-done, stored}
use Rattle.sweeps.proofs.Walks.{loop-few, rows_past}
use Rattle.sweeps.proofs.sets_of.Goals as goal

pub start_at-row-requires : goal.start_at-row-requires
start_at-row-requires c = omega (arith, loop-few c.requires.0 c.args.k c.requires.1)

pub overflow_add-k : goal.overflow_add-k
overflow_add-k c = omega (arith, loop-few c.requires.0 c.args.k c.requires.1)

pub start_at-row-end-requires : goal.start_at-row-end-requires
start_at-row-end-requires c = omega (arith, loop-few c.requires.0 c.args.k c.requires.1)

pub loop-row-init : goal.loop-row-init
loop-row-init c = rw c.start_at-row.ensures (sets-start c.args.store.now c.args.k c.requires.0 c.requires.1)

pub loop-row-preserved : goal.loop-row-preserved
loop-row-preserved c =
    let l = c.loop-row in
    let s = c.args.store.now in
    let e = rw (c.array_at-q.ensures, c.is_reference.ensures) at c.with_row-s.ensures.touches in
    let f = rw (c.array_at-q.ensures, c.is_destination.ensures) at c.with_row-s.ensures.writes in
    sets-next s c.args.k l.row l.s l.invariant
    (omega (arith, (rows_past c.requires.0 c.args.k c.requires.1 c.start_at-row-end.result c.start_at-row-end.ensures).1, c.loop-row-test.true))
    c.with_row-s.result e (λ q. f q ∙ ap (λ (b : Bool). marked l.s.written q || b) (stored (kind_at s l.row) (eqb q (array_at s l.row))))

pub returns : goal.returns
returns c =
    let l = c.loop-row in
    sets-done c.args.store.now c.args.k l.row l.s l.invariant
    (omega (arith, (rows_past c.requires.0 c.args.k c.requires.1 c.start_at-row-end.result c.start_at-row-end.ensures).1, c.loop-row-test.false))
