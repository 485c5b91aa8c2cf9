use native.Mathlib.Omega.{arith}
use mathlib.Core.Path.{◌∙◌, sym}
use borrow.Author.Tests.{eqb-true, eq-eqb}
use mathlib.Core.Bool.{false≢true}
use Rattle.legality.proofs.Laws.{reference-fits, row-stored, row_other}
use Rattle.legality.proofs.lacks_destination.Goals as goal

pub lacks_loop-requires : goal.lacks_loop-requires
lacks_loop-requires c =
    let a = c.args in
    let p = c.requires in
    let stores = sym c.is_destination.ensures ∙ c.if-is_destination.true in
    let kind = eqb-true _ 1 stores in
    rw c.reference_at.ensures (
      p.held,
      record {
        fits = reference-fits p.held a.j p.j_bound.0 a.r p.j_bound.1 (omega (arith, kind));
        stores = stores;
        other = p.j_bound.3;
        there = p.j_bound.2;
      },
    )

pub returns-then-is_destination : goal.returns-then-is_destination
returns-then-is_destination c =
    let a = c.args in
    row-stored a.store.now a.a.now a.j a.r a.k _ (eqb-true _ 1 (sym c.is_destination.ensures ∙ c.if-is_destination.true)) (rw c.reference_at.ensures at c.lacks_loop.ensures)

pub returns-else-is_destination : goal.returns-else-is_destination
returns-else-is_destination c =
    let a = c.args in
    rw c.if-is_destination.false
    (row_other a.store.now a.a.now a.j a.r a.k (λ e. absurd (false≢true (sym c.if-is_destination.false ∙ c.is_destination.ensures ∙ eq-eqb _ 1 e))))
