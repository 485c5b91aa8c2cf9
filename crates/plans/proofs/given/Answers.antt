use mathlib.Core.Path.{sym, ◌∙◌}
use Rattle.std.proofs.lemmas.Result.{err_from_is_err_and}
use Rattle.refusals.proofs.AnswerLaws.{ok-accepted, err-refused}
use Rattle.reader.specs.Store.{table_in}
use Rattle.plans.proofs.Laws.{hand-given}
use Rattle.plans.proofs.given.Goals as goal

pub returns-in_err-amounts : goal.returns-in_err-amounts
returns-in_err-amounts c =
    let a = c.args in
    let p = err_from_is_err_and c.from_residual.result c.from_residual.ensures.1 in
    rw (p.1, p.2) (hand-given a.w (table_in a.store.now) c.if-w-eq0.false ∙ err-refused _ _ _ (sym c.in_err-amounts.ensures))

pub returns : goal.returns
returns c =
    let a = c.args in
    let (b, e, f) = ok-accepted _ _ _ (sym c.in_ok-amounts.ensures) in
    hand-given a.w (table_in a.store.now) c.if-w-eq0.false ∙ rw (← f) e
