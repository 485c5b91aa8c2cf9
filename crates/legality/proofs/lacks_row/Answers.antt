use mathlib.Core.Path.{◌∙◌, sym}
use borrow.Author.Tests.{ltb-true, ltb-false}
use Rattle.reader.specs.Store.{table_in}
use Rattle.legality.specs.Code.{between}
use Rattle.legality.proofs.Laws.{reference-fits, touch-stores, row_here, row-empty, row_apart}
use Rattle.legality.proofs.lacks_row.Goals as goal

pub returns-then-array_at-x : goal.returns-then-array_at-x
returns-then-array_at-x c =
    let a = c.args in
    row_apart a.store.now a.a.now a.x a.k a.r (λ e. c.if-array_at-x.true (c.array_at.ensures ∙ sym e))

pub lacks_between-requires : goal.lacks_between-requires
lacks_between-requires c =
    let a = c.args in
    let p = c.requires in
    let array = sym c.if-array_at-x.false ∙ c.array_at.ensures in
    rw c.reference_at.ensures record {
      held = p.held;
      reference_fits = (
        p.storing.0.fits,
        reference-fits p.held a.k p.storing.0.there a.r p.storing.1 (ltb-true _ 2 (sym c.is_reference.ensures ∙ c.if-is_reference.true)),
        p.storing.0.other,
        touch-stores a.x _ p.storing.0.stores array,
      );
    }

pub returns-then-is_reference : goal.returns-then-is_reference
returns-then-is_reference c =
    let a = c.args in
    row_here a.store.now (between (table_in a.store.now) a.a.now a.x) a.k a.r _
    (ltb-true _ 2 (sym c.is_reference.ensures ∙ c.if-is_reference.true)) (rw c.reference_at.ensures at c.lacks_between.ensures)

pub returns-else-is_reference : goal.returns-else-is_reference
returns-else-is_reference c =
    let a = c.args in
    rw c.if-is_reference.false
    (row-empty a.store.now (between (table_in a.store.now) a.a.now a.x) a.k a.r (ltb-false _ 2 (sym c.is_reference.ensures ∙ c.if-is_reference.false)))
