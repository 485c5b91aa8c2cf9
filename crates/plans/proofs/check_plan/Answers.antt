use Rattle.plans.specs.Plans.{planned}
use Rattle.plans.proofs.Laws.{asked-accepted}
use Rattle.plans.proofs.check_plan.Goals as goal

pub returns : goal.returns
returns c =
    let a = c.args in
    let m = c.in_ok-shifts in
    asked-accepted (planned a.s.now a.w) m.field-0 c.plan_table.new.store m.ensures c.threshold_of.result c.threshold_of.ensures
