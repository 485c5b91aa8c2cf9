use Rattle.plans.specs.Plans.{planned_for}
use Rattle.plans.proofs.plan_for.Goals as goal

pub returns : goal.returns
unfolding planned_for
returns c = rw (← c.bad_number-wrong.ensures) c.plan_unless.ensures
