use Rattle.plans.specs.Plans.{planned}
use Rattle.plans.proofs.plan_table.Goals as goal

pub returns : goal.returns
unfolding planned
returns c = rw (← c.bad_processors-wrong.ensures) c.plan_unless.ensures
