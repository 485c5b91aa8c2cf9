use native.Mathlib.Omega.{arith}
use Rattle.running.proofs.Calls.{idling-small}
use Rattle.running.proofs.Order.{going_start, going_next, going_end}
use Rattle.running.proofs.take_order.Goals as goal

pub loop-b-init : goal.loop-b-init
loop-b-init c =
    let a = c.args in
    λ w step g. going_start w step a.layout.now.store.now a.order.now a.memory.now c.requires.1

pub step_laid-r-requires : goal.step_laid-r-requires
step_laid-r-requires c =
    let p = c.requires in
    let w = p.0.0 in
    let g = p.0.1.1 in
    ((w, g.lent _), (c.loop-b.invariant w p.0.1.0 g).long)

pub overflow_add-idle : goal.overflow_add-idle
overflow_add-idle c =
    let p = c.requires in
    let i = c.loop-b.invariant p.0.0 p.0.1.0 p.0.1.1 in
    omega (arith, i.few, c.loop-b-test.true, c.idle_of-idle.ensures, idling-small c.step_laid-r.result.report)

pub loop-b-preserved : goal.loop-b-preserved
loop-b-preserved c =
    let a = c.args in
    let x = c.step_laid-r in
    let l = c.loop-b in
    λ w step g. rw c.idle_of-idle.ensures
    (going_next w step a.layout.now.store.now a.order.now a.memory.now g l.counts.done _ l.memory _ l.idle l.b-index x.result.report
    (l.invariant w step g) c.loop-b-test.true (x.ensures w (g.lent _)))

pub returns : goal.returns
returns c =
    let a = c.args in
    let l = c.loop-b in
    λ w step g. going_end w step a.layout.now.store.now a.order.now a.memory.now l.counts.done l.memory l.idle l.b-index (l.invariant w step g)
    (omega (arith, c.loop-b-test.false))
