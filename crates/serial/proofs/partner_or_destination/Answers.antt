use native.Mathlib.Omega.{arith}
use mathlib.Core.Path.{sym, ap, ◌∙◌}
use borrow.Author.Tests.{eqb-false}
use Rattle.model.specs.declared.Reference.{Reference}
use Rattle.serial.proofs.Walks.{alone-start, alone-next, alone-found, alone-end}
use Rattle.serial.proofs.partner_or_destination.Goals as goal

pub loop-other-init : goal.loop-other-init
loop-other-init c =
    let a = c.args in
    alone-start a.store.now a.rows.first a.rows.last c.reference_at-x.result a.rows.from a.rows.past c.requires.0.some

pub row_collides-requires : goal.row_collides-requires
row_collides-requires c =
    let p = c.requires in
    let l = c.loop-other in
    let small = (p.0.each c.args.rows.from p.0.some).offset (omega (arith, p.1)) in (
      omega (arith, p.0.few, c.loop-other-test.true),
      p.0.each l.other c.loop-other-test.true,
      omega (arith, small, ap (λ (x : Reference). x.offset) c.reference_at-x.ensures),
    )

pub returns-then-row_collides : goal.returns-then-row_collides
returns-then-row_collides c =
    let a = c.args in
    let l = c.loop-other in
    alone-found a.store.now a.rows.first a.rows.last _ a.rows.from a.rows.past c.reference_at-x.ensures c.requires.0.some c.requires.1 l.other l.invariant
    c.loop-other-test.true (sym c.if-row_collides.true ∙ c.row_collides.ensures)

pub loop-other-preserved : goal.loop-other-preserved
loop-other-preserved c =
    let a = c.args in
    let l = c.loop-other in
    alone-next a.store.now a.rows.first a.rows.last c.reference_at-x.result a.rows.from a.rows.past l.other l.invariant
    c.loop-other-test.true (eqb-false _ _ (sym c.is_destination.ensures ∙ c.if-is_destination.false)) (sym c.if-row_collides.false ∙ c.row_collides.ensures)

pub returns : goal.returns
returns c =
    let a = c.args in
    let l = c.loop-other in
    alone-end a.store.now a.rows.first a.rows.last _ a.rows.from a.rows.past c.reference_at-x.ensures c.requires.0.some c.requires.1 l.other l.invariant c.loop-other-test.false
