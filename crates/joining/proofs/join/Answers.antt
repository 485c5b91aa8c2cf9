use native.Mathlib.Omega.{arith}
use mathlib.Core.Path.{sym, ◌∙◌}
use Rattle.std.proofs.lemmas.Result.{err_from_is_err_and}
use Rattle.reader.specs.Held.{few-loops}
use Rattle.joining.proofs.Answers.{left-refused, right-refused, unlike-arrays, many-loops, joined, enough}
use Rattle.joining.proofs.join.Goals as goal

pub returns-in_err-read_through : goal.returns-in_err-read_through
returns-in_err-read_through c =
    let a = c.args in
    let p = err_from_is_err_and c.from_residual.result c.from_residual.ensures.1 in
    rw (p.1, p.2) (left-refused a.left.now a.right.now a.out.now _ c.in_err-read_through.ensures)

pub returns-in_err-read_through-2 : goal.returns-in_err-read_through-2
returns-in_err-read_through-2 c =
    let a = c.args in
    let l = c.in_ok-read_through.ensures in
    let q = c.from_residual-in_err-read_through-2 in
    let p = err_from_is_err_and q.result q.ensures.1 in
    rw (p.1, p.2)
    (right-refused a.left.now a.right.now a.out.now c.read_through.new.store l.0 l.1 _ c.in_err-read_through-2.ensures)

pub same_lengths-requires : goal.same_lengths-requires
same_lengths-requires c = (c.in_ok-read_through.ensures.1, c.in_ok-read_through-2.ensures.1)

pub overflow_add-total : goal.overflow_add-total
overflow_add-total c =
    omega (arith, c.loops_in.ensures, c.loops_in-2.ensures, few-loops c.in_ok-read_through.ensures.1, few-loops c.in_ok-read_through-2.ensures.1)

pub returns-then-not-same_lengths : goal.returns-then-not-same_lengths
returns-then-not-same_lengths c =
    let a = c.args in
    let l = c.in_ok-read_through.ensures in
    let r = c.in_ok-read_through-2.ensures in
    rw c.met.ensures
    (unlike-arrays a.left.now a.right.now a.out.now c.read_through.new.store l.0 l.1 c.read_through-2.new.store r.0 r.1
    (sym c.if-not-same_lengths.true ∙ c.same_lengths.ensures))

pub returns-then-total-gt-MOST_LOOPS : goal.returns-then-total-gt-MOST_LOOPS
returns-then-total-gt-MOST_LOOPS c =
    let a = c.args in
    let l = c.in_ok-read_through.ensures in
    let r = c.in_ok-read_through-2.ensures in
    rw c.met-then-total-gt-MOST_LOOPS.ensures
    (many-loops a.left.now a.right.now a.out.now c.read_through.new.store l.0 l.1 c.read_through-2.new.store r.0 r.1
    (sym c.if-not-same_lengths.false ∙ c.same_lengths.ensures)
    (omega (arith, c.if-total-gt-MOST_LOOPS.true, c.loops_in.ensures, c.loops_in-2.ensures)))

pub write-requires : goal.write-requires
write-requires c =
    let a = c.args in
    let l = c.in_ok-read_through.ensures in
    let r = c.in_ok-read_through-2.ensures in
    rw c.arrays_in.ensures
    (enough a.left.now a.right.now a.out.now c.read_through.new.store l.0 l.1 c.read_through-2.new.store r.0 r.1
    (sym c.if-not-same_lengths.false ∙ c.same_lengths.ensures))

pub returns : goal.returns
returns c =
    let a = c.args in
    let l = c.in_ok-read_through.ensures in
    let r = c.in_ok-read_through-2.ensures in
    joined a.left.now a.right.now a.out.now c.read_through.new.store l.0 l.1 c.read_through-2.new.store r.0 r.1
    (sym c.if-not-same_lengths.false ∙ c.same_lengths.ensures) (λ k. omega (arith, c.type_inv.left k)) (λ k. omega (arith, c.type_inv.right k))
    c.write.result c.write.new.out (omega (arith, c.if-total-gt-MOST_LOOPS.false, c.loops_in.ensures, c.loops_in-2.ensures))
    (rw c.arrays_in.ensures at c.write.ensures)
