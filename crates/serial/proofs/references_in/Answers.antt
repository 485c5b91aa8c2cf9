use mathlib.Core.Path.{sym, ◌∙◌}
use borrow.Author.Tests.{ltb-true, ltb-false}
use Rattle.serial.proofs.Walks.{counted-reference, counted-other, counted-end}
use Rattle.serial.proofs.references_in.Goals as goal
use Rattle.serial.proofs.references_in.Goals.{then-is_reference, else-is_reference}

pub loop-row-preserved : goal.loop-row-preserved
loop-row-preserved c =
    let a = c.args in
    let l = c.loop-row in
    let k = sym c.is_reference.ensures in
    elim c.if-is_reference.branch [
      | then-is_reference w ↦
          rw w.n-is (counted-reference a.store.now a.from a.past l.row l.n l.invariant c.loop-row-test.true (ltb-true _ _ (k ∙ w.if-is_reference.true)))
      | else-is_reference w ↦
          rw w.n-is (counted-other a.store.now a.from a.past l.row l.n l.invariant c.loop-row-test.true (ltb-false _ _ (k ∙ w.if-is_reference.false)))
    ]

pub returns : goal.returns
returns c =
    let a = c.args in
    let l = c.loop-row in
    counted-end a.store.now a.from a.past l.row l.n l.invariant c.loop-row-test.false
