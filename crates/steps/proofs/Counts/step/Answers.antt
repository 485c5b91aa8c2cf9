use Rattle.steps.proofs.Laws.{steps-refused, laid-named, steps-made}
use Rattle.steps.proofs.Counts.step.Goals as goal

pub step_planned-requires : goal.step_planned-requires
step_planned-requires c =
    let a = c.args in
    laid-named a.s.now a.w a.processor a.self a.memory.now c.in-Ok.a _ c.in-Ok.ensures

pub returns-in-Ok : goal.returns-in-Ok
returns-in-Ok c =
    let a = c.args in
    let y = c.step_planned in
    steps-made a.s.now a.w a.processor a.self a.memory.now c.in-Ok.a _ c.in-Ok.ensures y.result _ y.ensures

pub returns-in-Err : goal.returns-in-Err
returns-in-Err c =
    let a = c.args in
    rw c.refused.ensures (steps-refused a.s.now a.w a.processor a.self a.memory.now c.in-Err.r c.in-Err.ensures)
