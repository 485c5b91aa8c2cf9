use mathlib.Core.Path.{sym, ◌∙◌}
use borrow.Author.Tests.{eqb-false}
use Rattle.reader.specs.Held.{opening-held}
use Rattle.serial.proofs.Walks.{loop-alone, loop-first}
use Rattle.serial.proofs.loop_hit.Goals as goal

pub partner_or_destination-requires : goal.partner_or_destination-requires
partner_or_destination-requires c = (c.rows_of-rows.ensures.known, rw c.rows_of-rows.ensures.is (opening-held c.requires.0 c.args.k c.requires.1))

pub returns-in_err-other : goal.returns-in_err-other
returns-in_err-other c =
    rw c.from_residual.ensures
    (loop-alone c.args.store.now c.requires.0 c.args.k c.requires.1 c.rows_of-rows.result c.rows_of-rows.ensures.is c.in_err-other.ensures)

pub returns : goal.returns
returns c =
    loop-first c.args.store.now c.requires.0 c.args.k c.requires.1 c.rows_of-rows.result c.rows_of-rows.ensures.is _ _ c.in_ok-other.ensures
    (eqb-false _ _ (sym c.is_destination.ensures ∙ c.if-is_destination.false)) c.references_in.ensures
