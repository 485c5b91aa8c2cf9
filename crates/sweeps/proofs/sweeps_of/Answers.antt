use Rattle.sweeps.proofs.Walks.{loops-start, loops-next, loops-done, room}
use Rattle.sweeps.proofs.sweeps_of.Goals as goal

pub loop-k-init : goal.loop-k-init
loop-k-init c = loops-start c.args.store.now c.requires c.loops_in-k-end.result c.loops_in-k-end.ensures

pub with_loop-s-requires : goal.with_loop-s-requires
with_loop-s-requires c =
    let l = c.loop-k in
    let n = c.loops_in-k-end in
    room c.args.store.now c.requires n.result n.ensures l.k l.s l.invariant c.loop-k-test.true

pub loop-k-preserved : goal.loop-k-preserved
loop-k-preserved c =
    let l = c.loop-k in
    let n = c.loops_in-k-end in
    loops-next c.args.store.now c.requires n.result n.ensures l.k l.s l.invariant c.loop-k-test.true
    c.with_loop-s.result c.with_loop-s.ensures

pub returns : goal.returns
returns c =
    let l = c.loop-k in
    let n = c.loops_in-k-end in
    loops-done c.args.store.now c.requires n.result n.ensures l.k l.s l.invariant c.loop-k-test.false
    c.sizes.result c.sizes.ensures.0
