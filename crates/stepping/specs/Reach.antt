-- A step of an accepted plan, whatever number it names.
use Rattle.std.specs.Prelude.{ℕ, ◌≤◌, ◌<◌, ◌≡◌, List, length, Float}
use Rattle.model.specs.Table.{iteration}
use Rattle.model.specs.Bodies.{run}
use Rattle.refusals.specs.Refusals.{met}
use Rattle.refusals.specs.Answers.{accepted}
use Rattle.turns.specs.Turn.{refuses, stays, turn}
use Rattle.turns.proofs.Reach.{stepped-turn}
use Rattle.turns.specs.Reachable.{Reachable}
use Rattle.plans.specs.Plans.{Settings, Planned, planned}
use Rattle.plans.proofs.Accepted.{named-below, named_past}
use Rattle.iterations.specs.Memory.{remembered}
use Rattle.iterations.specs.MemoryLaws.{remembered-as-long}
use Rattle.stepping.specs.Step.{work_of, elements, stepped_by, step}

module _ (s : List ℕ) (w : Settings) (q : Planned) (planned-is : planned s w ≡ accepted q) (b : ℕ) (cs : List ℕ) (m : List Float) where
  -- from a memory of the table's length and counts that rows reach it is a turn
  pub step-turn : length m ≡ elements q → Reachable (work_of q) cs → b < q.plan.processors
      → step s w b cs m ≡ turn (iteration 0 0) (work_of q) (run q.table) b cs m
  unfolding step stepped_by
  step-turn e r l =
      rw (named-below s w b q planned-is l, remembered-as-long elements (length m) q e)
      (stepped-turn (iteration 0 0) (work_of q) (run q.table) b cs m r)

  -- a number not below P is refused, by 10
  pub step_past : q.plan.processors ≤ b → step s w b cs m ≡ stays cs m (refuses (met 10 0))
  unfolding step stepped_by remembered
  step_past l = rw (named_past s w b q planned-is l)
