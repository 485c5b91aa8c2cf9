use Rattle.serial.proofs.Walks.{loops-start, loop-passed, loop-collides, loops-done}
use Rattle.serial.proofs.check_loops.Goals as goal

pub loop-k-init : goal.loop-k-init
loop-k-init c = loops-start c.args.store.now c.requires c.loops_in-loops.result c.loops_in-loops.ensures

pub loop-k-preserved : goal.loop-k-preserved
loop-k-preserved c =
    let l = c.loop-k in
    loop-passed c.args.store.now c.requires _ l.k l.invariant c.loop-k-test.true c.loop_hit.result c.loop_hit.ensures c.in_default.is

pub returns-in-Some : goal.returns-in-Some
returns-in-Some c =
    let l = c.loop-k in
    rw c.naming.ensures
    (loop-collides c.args.store.now c.requires _ l.k l.invariant c.loop-k-test.true c.loop_hit.result
    c.loop_hit.ensures c.in-Some.m c.in-Some.n c.in-Some.is)

pub returns : goal.returns
returns c =
    let l = c.loop-k in
    loops-done c.args.store.now c.requires _ l.k l.invariant c.loop-k-test.false
