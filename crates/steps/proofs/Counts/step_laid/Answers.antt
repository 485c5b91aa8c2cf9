use Prim.Native.Nat.{◌<◌}
use native.Mathlib.Omega.{arith}
use mathlib.Core.Path.{refl, sym, ◌∙◌}
use Rattle.reader.specs.Store.{table_in}
use Rattle.stepping.specs.declared.Report.TheVariants.{Performed}
use Rattle.steps.proofs.Performing.{leaves-past, performed-inside, leaves-performed, leaves-other}
use Rattle.steps.proofs.Counts.step_laid.Goals as goal

pub returns-then-layout-b : goal.returns-then-layout-b
returns-then-layout-b c =
    let a = c.args in
    rw (c.refused.ensures, c.met.ensures)
    (λ w h. leaves-past h.phased a.layout.now.store.now a.self.done a.memory.now (omega (arith, h.phased.few, c.if-layout-b.true)))

pub next_of-report-requires : goal.next_of-report-requires
next_of-report-requires c =
    let a = c.args in
    let p = c.requires in
    let l : a.b < a.layout.now.barriers.now.processors = omega (arith, c.if-layout-b.false) in
    ((p.0.0, p.0.1.phased, p.0.1.listed l), l)

pub iterate-requires : goal.iterate-requires
iterate-requires c =
    let a = c.args in
    let p = c.requires in
    let h = p.0.1 in
    let l : a.b < a.layout.now.barriers.now.processors = omega (arith, c.if-layout-b.false) in
    let x = c.next_of-report in
    let i = c.in-Performed in (
      table_in a.layout.now.store.now,
      h.loaded,
      (performed-inside h l a.self.done x.result (x.ensures p.0.0 h.phased (h.listed l)) i.number i.index i.is).0,
      p.1,
    )

pub overflow_add-self : goal.overflow_add-self
overflow_add-self c =
    let a = c.args in
    let p = c.requires in
    let h = p.0.1 in
    let l : a.b < a.layout.now.barriers.now.processors = omega (arith, c.if-layout-b.false) in
    let x = c.next_of-report in
    let i = c.in-Performed in
    omega (arith, (performed-inside h l a.self.done x.result (x.ensures p.0.0 h.phased (h.listed l)) i.number i.index i.is).1)

pub returns-in-Performed : goal.returns-in-Performed
returns-in-Performed c =
    let a = c.args in
    let l : a.b < a.layout.now.barriers.now.processors = omega (arith, c.if-layout-b.false) in
    let x = c.next_of-report in
    let i = c.in-Performed in
    λ w h. let told = x.ensures w h.phased (h.listed l) in
    leaves-performed h l a.self.done (Performed i.number i.index) (sym i.is ∙ told) a.memory.now i.number i.index refl a.b refl _
    (c.iterate.ensures (table_in a.layout.now.store.now) h.loaded (performed-inside h l a.self.done x.result told i.number i.index i.is).0)

pub returns-in_default : goal.returns-in_default
returns-in_default c =
    let a = c.args in
    let l : a.b < a.layout.now.barriers.now.processors = omega (arith, c.if-layout-b.false) in
    let x = c.next_of-report in
    λ w h. leaves-other h l a.self.done x.result (x.ensures w h.phased (h.listed l)) a.memory.now
    (λ k i q. c.in_default.not-Performed k i q)
