use Rattle.std.proofs.Common.{refl, arith}
use Rattle.lists.specs.Joined.{walk-next}
use Rattle.lists.specs.Lists.{here}
use Rattle.positions.specs.Search.{at-sum-fits, at-sum-here, at-sum-past}
use Rattle.positions.specs.Code.{loops_in, range_in, shift_in}
use Rattle.positions.proofs.list.Columns.nth_at_sum.Goals as goal

pub overflow_sub-result : goal.overflow_sub-result
overflow_sub-result c =
    let s = c.args.self.now in
    let l = c.loop-k in
    at-sum-fits (loops_in s) (range_in s) (shift_in s) c.args.t l.k c.args.n l.left _ c.if-left-h.true (rw c.range.ensures at (c.held-h.ensures l.k))

pub returns-then-left-h : goal.returns-then-left-h
returns-then-left-h c =
    let s = c.args.self.now in
    let l = c.loop-k in
    at-sum-here (loops_in s) (range_in s) (shift_in s) c.args.t l.k c.args.n l.left _ _ c.loop-k-test.true l.invariant c.if-left-h.true
    (rw c.range.ensures at (c.held-h.ensures l.k)) refl

pub loop-k-preserved : goal.loop-k-preserved
loop-k-preserved c =
    let s = c.args.self.now in
    let l = c.loop-k in
    let h = rw c.range.ensures at (c.held-h.ensures l.k) in
    rw h (walk-next (here (range_in s) (shift_in s) c.args.t) l.k c.args.n l.left l.invariant (omega arith))

pub returns : goal.returns
returns c =
    let s = c.args.self.now in
    at-sum-past (loops_in s) (range_in s) (shift_in s) c.args.t c.loop-k.k c.args.n c.loop-k.left (omega arith) (omega arith) c.loop-k.invariant
