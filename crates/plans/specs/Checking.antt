-- What asking for a plan tells: its refusal, or its threshold. Assumes nothing.
use Rattle.std.specs.Prelude.{ℕ, ◌+◌}
use Rattle.refusals.specs.Answers.{AnswerOf, accepted, refused}
use Rattle.chains.specs.Maximum.{maximum_below}
use Rattle.lists.specs.Fusion.{Fusion}
use Rattle.plans.specs.Plans.{Planned}

-- the largest sum of shift and peel of one loop
abbrev pub plan_threshold : Fusion → ℕ
plan_threshold c = maximum_below 16 (λ k. c.shift k + c.peel k)

-- 0 where the plan is refused
abbrev pub threshold_in : AnswerOf Planned → ℕ
threshold_in (refused r) = 0
threshold_in (accepted q) = plan_threshold q.plan
