use Rattle.told.specs.Results.{refused-is}
use Rattle.vempaldi.proofs.Laws.{report-small}
use Rattle.vempaldi.proofs.vempaldi_step.Goals as goal

pub tell_report-requires : goal.tell_report-requires
tell_report-requires c =
    let a = c.args in
    let x = c.step-stepped in
    report-small a.table.now a.settings a.processor a.counts.now a.memory.now x.result.report x.ensures.report-is

pub returns-clause-answer_after : goal.returns-clause-answer_after
returns-clause-answer_after c =
    let x = c.step-stepped in
    rw (c.refusal_in.ensures, refused-is x.result.report, x.ensures.report-is) at c.write_answer.ensures
