use mathlib.Core.Path.{◌∙◌, sym}
use Rattle.std.proofs.lemmas.Result.{err_from_is_err_and}
use Rattle.reader.specs.Store.{table_in}
use Rattle.tables.proofs.Nine.{valid}
use Rattle.plans.proofs.Laws.{read-refused, plans-unfit, plans-ten, plans-seventeen, plans-chosen}
use Rattle.plans.proofs.plan_unless.Goals as goal

pub returns-in_err-read_through : goal.returns-in_err-read_through
returns-in_err-read_through c =
    let a = c.args in
    let p = err_from_is_err_and c.from_residual.result c.from_residual.ensures.1 in
    rw (p.1, p.2) (read-refused a.s.now a.wrong a.w _ c.in_err-read_through.ensures)

pub returns-in_err-hand : goal.returns-in_err-hand
returns-in_err-hand c =
    let a = c.args in
    let p = err_from_is_err_and c.from_residual-in_err-hand.result c.from_residual-in_err-hand.ensures.1 in
    rw (p.1, p.2) (plans-unfit a.s.now a.wrong a.w _ c.in_ok-read_through.ensures.0 _ c.in_err-hand.ensures)

pub returns-then-wrong : goal.returns-then-wrong
returns-then-wrong c =
    let a = c.args in
    rw c.met.ensures
    (plans-ten a.s.now a.wrong a.w _ c.in_ok-read_through.ensures.0 c.in_ok-hand.hand c.in_ok-hand.ensures c.if-wrong.true)

pub returns-then-bad_line : goal.returns-then-bad_line
returns-then-bad_line c =
    let a = c.args in
    rw c.met-then-bad_line.ensures
    (plans-seventeen a.s.now a.wrong a.w _ c.in_ok-read_through.ensures.0 c.in_ok-hand.hand c.in_ok-hand.ensures c.if-wrong.false
    (sym c.bad_line.ensures ∙ c.if-bad_line.true))

pub plan_read-requires : goal.plan_read-requires
plan_read-requires c =
    let a = c.args in
    let (e, held) = c.in_ok-read_through.ensures in
    (held, valid a.s.now (table_in c.read_through.new.store) e, sym c.bad_line.ensures ∙ c.if-bad_line.false, c.in_ok-hand.ensures)

pub returns : goal.returns
returns c =
    let a = c.args in
    plans-chosen a.s.now a.wrong a.w _ c.in_ok-read_through.ensures.0 c.in_ok-hand.hand c.in_ok-hand.ensures c.if-wrong.false
    (sym c.bad_line.ensures ∙ c.if-bad_line.false) _ _ c.plan_read.ensures
