use native.Mathlib.Omega.{arith}
use mathlib.Core.Path.{◌≡◌, subst}
use Prim.Native.Nat.{◌-◌}
use Rattle.reader.specs.Rows.{LastDestination}
use Rattle.reader.specs.Held.{count_held, few-loops, few-rows}
use Rattle.reader.specs.RowLaws.{behind-last, behind-few, first_found}
use Rattle.reader.proofs.last_destination.Goals as goal

pub start_at-start-requires : goal.start_at-start-requires
start_at-start-requires c = omega (arith, count_held c.requires.0, few-loops c.requires.0, c.requires.1)

pub overflow_add-k : goal.overflow_add-k
overflow_add-k c = let p = c.requires in omega (arith, count_held p.0, few-loops p.0, p.1)

pub start_at-past-requires : goal.start_at-past-requires
start_at-past-requires c = let p = c.requires in omega (arith, count_held p.0, few-loops p.0, p.1)

pub loop-r-init : goal.loop-r-init
loop-r-init c =
    behind-last c.requires.0 c.args.k c.requires.1 c.start_at-past.result c.start_at-past.ensures

pub kind_at-requires : goal.kind_at-requires
kind_at-requires c =
    let l = c.loop-r in
    behind-few c.requires.0 c.args.k c.requires.1 (l.r - 1) l.invariant

pub returns : goal.returns
returns c =
    let l = c.loop-r in
    let e : l.r - 1 ≡ c.start_at-start.result = omega (arith, c.start_at-start.ensures, l.invariant.from, c.loop-r-test.false) in
    subst (LastDestination c.args.store.now c.args.k) e
    (first_found c.requires.0 c.args.k c.requires.1 _ (l.r - 1) c.start_at-start.ensures l.invariant (omega (arith, c.loop-r-test.false)))

pub overflow_add-r-start : goal.overflow_add-r-start
overflow_add-r-start c =
    let p = c.requires in
    omega (arith, c.start_at-start.ensures, few-rows p.0 c.args.k (omega (arith, p.1)))
