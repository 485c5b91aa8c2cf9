use native.Mathlib.Omega.{arith}
use mathlib.Core.Path.{sym, ap, ◌∙◌}
use Prim.Native.Nat.{◌+◌}
use borrow.Author.Tests.{ltb-true, ltb-false}
use Rattle.model.specs.declared.Reference.{Reference}
use Rattle.serial.proofs.Walks.{passed_start, passed-next, partner-other, partner-none, partner-found}
use Rattle.serial.proofs.partner.Goals as goal

pub returns-then-not-is_reference : goal.returns-then-not-is_reference
returns-then-not-is_reference c =
    let a = c.args in
    partner-other a.store.now a.rows.first a.rows.last a.row a.rows.past c.requires.1 (ltb-false _ _ (sym c.is_reference.ensures ∙ c.if-not-is_reference.true))

pub loop-other-init : goal.loop-other-init
loop-other-init c =
    let a = c.args in
    passed_start a.store.now a.rows.first a.rows.last c.reference_at-x.result (a.row + 1) a.rows.past

pub row_collides-requires : goal.row_collides-requires
row_collides-requires c =
    let p = c.requires in
    let l = c.loop-other in
    let small = (p.0.each c.args.row p.1).offset (ltb-true _ _ (sym c.is_reference.ensures ∙ c.if-not-is_reference.false)) in (
      omega (arith, p.0.few, c.loop-other-test.true),
      p.0.each l.other c.loop-other-test.true,
      omega (arith, small, ap (λ (x : Reference). x.offset) c.reference_at-x.ensures),
    )

pub returns-then-row_collides : goal.returns-then-row_collides
returns-then-row_collides c =
    let a = c.args in
    let l = c.loop-other in
    let x = c.reference_at-x.ensures in
    partner-found a.store.now a.rows.first a.rows.last a.row a.rows.past c.requires.1 (ltb-true _ _ (sym c.is_reference.ensures ∙ c.if-not-is_reference.false))
    l.other (rw x at l.invariant) c.loop-other-test.true (rw x at (sym c.if-row_collides.true ∙ c.row_collides.ensures))

pub loop-other-preserved : goal.loop-other-preserved
loop-other-preserved c =
    let a = c.args in
    let l = c.loop-other in
    passed-next a.store.now a.rows.first a.rows.last c.reference_at-x.result (a.row + 1) a.rows.past l.other l.invariant
    c.loop-other-test.true (sym c.if-row_collides.false ∙ c.row_collides.ensures)

pub returns : goal.returns
returns c =
    let a = c.args in
    let l = c.loop-other in
    partner-none a.store.now a.rows.first a.rows.last a.row a.rows.past c.requires.1 (ltb-true _ _ (sym c.is_reference.ensures ∙ c.if-not-is_reference.false))
    l.other (rw c.reference_at-x.ensures at l.invariant) c.loop-other-test.false
