use Prim.Native.Nat.{◌+◌, ◌-◌}
use native.Mathlib.Omega.{arith}
use mathlib.Core.Path.{◌≡◌, sym, ◌∙◌}
use Rattle.running.proofs.Closing.{closing-start, closing-next, closing-stop, closing_end}
use Rattle.running.proofs.close.Goals as goal

pub loop-i-init : goal.loop-i-init
loop-i-init c =
    let a = c.args in
    λ w step g r. closing-start g a.most a.from.done a.memory.now _ (omega arith) c.requires.1 r

pub returns-in_default : goal.returns-in_default
returns-in_default c =
    let a = c.args in
    let l = c.loop-i in
    let found = c.lowest_ready in
    λ w step g r. closing-stop g a.most a.from.done a.memory.now l.counts.done l.memory (a.most - l._i) (l.invariant w step g r)
    (omega arith) a.layout.now.barriers.now.phases a.layout.now.in_two_phases (sym c.in_default.is ∙ found.ensures)

pub step_laid-requires : goal.step_laid-requires
step_laid-requires c =
    let p = c.requires in
    let g = p.0.1.1 in
    ((p.0.0, g.lent _), (c.loop-i.invariant p.0.0 p.0.1.0 g p.0.1.2).long)

pub loop-i-preserved : goal.loop-i-preserved
loop-i-preserved c =
    let a = c.args in
    let l = c.loop-i in
    let x = c.step_laid in
    let e : a.most - (l._i + 1) ≡ a.most - l._i - 1 = omega arith in
    λ w step g r. rw e
    (closing-next g a.most a.from.done a.memory.now l.counts.done l.memory (a.most - l._i) (l.invariant w step g r) (omega arith)
    a.layout.now.barriers.now.phases a.layout.now.in_two_phases c.in-Some.b (sym c.in-Some.is ∙ c.lowest_ready.ensures) _ _ x.result.report
    (x.ensures w (g.lent _)))

pub returns : goal.returns
returns c =
    let a = c.args in
    let l = c.loop-i in
    λ w step g r. closing_end g a.most a.from.done a.memory.now l.counts.done l.memory (a.most - l._i) (l.invariant w step g r) (omega arith)
