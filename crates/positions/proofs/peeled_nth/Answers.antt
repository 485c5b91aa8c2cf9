use Rattle.std.proofs.Common.{length, refl, arith}
use Rattle.lists.specs.Lists.{ranges}
use Rattle.positions.specs.Search.{by-loops-here, by-loops-next, by-loops-past}
use Rattle.positions.proofs.peeled_nth.Goals as goal

pub returns-then-left-h : goal.returns-then-left-h
returns-then-left-h c =
    let a = c.args in
    let l = c.loop-k in
    by-loops-here (length a.froms.now) (ranges a.froms.now a.pasts.now) l.k a.n l.left _ c.loop-k-test.true l.invariant (omega arith) refl

pub loop-k-preserved : goal.loop-k-preserved
loop-k-preserved c =
    let a = c.args in
    let l = c.loop-k in
    by-loops-next (length a.froms.now) (ranges a.froms.now a.pasts.now) l.k a.n l.left _ l.invariant c.length-h.ensures c.if-left-h.false

pub returns : goal.returns
returns c =
    let a = c.args in
    by-loops-past (length a.froms.now) (ranges a.froms.now a.pasts.now) c.loop-k.k a.n c.loop-k.left (omega arith) (omega arith) c.loop-k.invariant
