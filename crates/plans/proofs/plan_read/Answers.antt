use native.Mathlib.Omega.{arith}
use Rattle.plans.proofs.Laws.{threshold-fits, short-asks, chosen-short, chosen-made}
use Rattle.plans.proofs.plan_read.Goals as goal

pub overflow_cast-threshold : goal.overflow_cast-threshold
overflow_cast-threshold c =
    let a = c.args in
    let p = c.requires in
    let x = c.chosen-found in
    let t = c.threshold_of-threshold in
    omega (arith, threshold-fits a.w a.store.now p.0 p.1 x.result (x.ensures a.w p.3) t.result t.ensures)

pub short-requires : goal.short-requires
short-requires c =
    let a = c.args in
    let p = c.requires in
    let x = c.chosen-found in
    let s = c.span_of-span in
    short-asks a.w a.store.now p.0 p.1 x.result (x.ensures a.w p.3) p.2 s.result s.ensures

pub returns-then-short : goal.returns-then-short
returns-then-short c =
    let a = c.args in
    let p = c.requires in
    let x = c.chosen-found in
    let s = c.span_of-span in
    let t = c.threshold_of-threshold in
    let d = c.short in
    rw c.met.ensures
    (chosen-short a.w a.store.now p.0 p.1 x.result (x.ensures a.w p.3) s.result t.result d.result s.ensures t.ensures d.ensures
    c.if-short.true)

pub returns : goal.returns
returns c =
    let a = c.args in
    let p = c.requires in
    let x = c.chosen-found in
    let s = c.span_of-span in
    let t = c.threshold_of-threshold in
    let d = c.short in
    chosen-made a.w a.store.now p.0 p.1 x.result (x.ensures a.w p.3) s.result t.result d.result s.ensures t.ensures d.ensures
    p.2 c.if-short.false
