use Rattle.std.proofs.lemmas.Result.{err_from_is_err_and}
use Rattle.plans.proofs.CodeLaws.{made-laid}
use Rattle.running.proofs.Laws.{runs-refused}
use Rattle.running.proofs.run.Goals as goal

pub returns-in_err-a : goal.returns-in_err-a
returns-in_err-a c =
    let a = c.args in
    let p = err_from_is_err_and c.from_residual.result c.from_residual.ensures.1 in
    rw (p.1, p.2) (runs-refused a.s.now a.w a.order.now a.memory.now _ c.in_err-a.ensures)

pub run_planned-requires : goal.run_planned-requires
run_planned-requires c =
    let a = c.args in
    made-laid a.s.now a.w c.in_ok-a.a _ c.in_ok-a.ensures

pub returns : goal.returns
returns c =
    let a = c.args in
    c.run_planned.ensures a.s.now a.w c.in_ok-a.ensures.is
