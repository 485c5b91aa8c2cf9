use Prim.Native.Nat.{◌<◌}
use mathlib.Core.Path.{sym, ◌∙◌}
use borrow.Author.Tests.{ltb-true, ltb-false}
use Rattle.reader.specs.Store.{kind_at}
use Rattle.amounts.specs.Walked.{numbers_of}
use Rattle.amounts.proofs.Laws.{row-few, reference-earlier, reference-steps, reference-next, item-next}
use Rattle.amounts.proofs.walk_row.Goals as goal

-- `walk_row` meets its contract: a reference is taken up, any other item passed over.
pub take_later-requires : goal.take_later-requires
take_later-requires c =
    let a = c.args in
    let p = c.requires in
    let w = a.walk.now in
    let n = numbers_of w.amounts a.made.now in
    let q : kind_at a.store.now a.r < 2 = ltb-true _ 2 (sym c.is_reference.ensures ∙ c.if-is_reference.true) in
    rw c.reference_at.ensures record {
      held = (
        p.held.0,
        reference-earlier p.held.0 a.k p.held.1 w.references w.columns n a.from p.held.2 a.r p.k_bound.0 p.k_bound.1 p.walked q,
        reference-steps p.held.0 a.k p.held.1 w.references w.columns n a.from p.held.2 a.r p.k_bound.0 p.k_bound.1 p.walked q,
      );
      bounded = (
        p.walked.bounded,
        p.walked.few,
        row-few p.held.0 a.k p.held.1 w.references w.columns n a.from p.held.2 a.r p.k_bound.0 p.k_bound.1 p.walked,
      );
    }

pub returns-then-is_reference : goal.returns-then-is_reference
returns-then-is_reference c =
    let a = c.args in
    let p = c.requires in
    let w = a.walk.now in
    let q : kind_at a.store.now a.r < 2 = ltb-true _ 2 (sym c.is_reference.ensures ∙ c.if-is_reference.true) in
    let columns_after = rw c.reference_at.ensures at c.take_later.ensures.columns_after in
    let taken = rw c.reference_at.ensures at c.take_later.ensures.taken in
    rw c.take_later.ensures.references_after
    (reference-next p.held.0 a.k p.held.1 w.references w.columns (numbers_of w.amounts a.made.now) a.from p.held.2 a.r p.k_bound.0 p.k_bound.1 p.walked q _ _
    columns_after taken c.take_later.ensures.bounded_2)

pub returns-else-is_reference : goal.returns-else-is_reference
returns-else-is_reference c =
    let a = c.args in
    let p = c.requires in
    let w = a.walk.now in
    item-next p.held.0 a.k p.held.1 w.references w.columns (numbers_of w.amounts a.made.now) a.from p.held.2 a.r p.k_bound.0 p.k_bound.1 p.walked
    (ltb-false _ 2 (sym c.is_reference.ensures ∙ c.if-is_reference.false))
