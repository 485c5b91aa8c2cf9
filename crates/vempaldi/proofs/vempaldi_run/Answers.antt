use Rattle.vempaldi.proofs.Laws.{run-idle}
use Rattle.vempaldi.proofs.vempaldi_run.Goals as goal

pub returns-clause-value : goal.returns-clause-value
returns-clause-value c =
    let a = c.args in
    run-idle a.table.now a.settings a.order.now a.memory.now c.run.ensures c.tell_outcome.ensures.value
