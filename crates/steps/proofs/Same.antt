-- LAWS: a call by the number that it names; and the step from bytes is such a call, of an accepted plan, from a memory of the table's length
-- and counts that rows reach, whatever number it names.
use Rattle.std.specs.Prelude.{ℕ, ◌≤◌, ◌<◌, ◌≡◌, List, length, Float}
use Rattle.std.proofs.Common.{arith, sym, ◌∙◌, lt-ltb, le-ltb}
use Rattle.std.proofs.Math.Decide.{dec_lt}
use Rattle.refusals.specs.Refusals.{met}
use Rattle.refusals.specs.Answers.{accepted}
use Rattle.model.specs.declared.Iteration.{Iteration}
use Rattle.model.specs.Table.{Table, iteration}
use Rattle.model.specs.Bodies.{run}
use Rattle.turns.specs.Turn.{Work, refuses, stays, turn}
use Rattle.turns.specs.Reachable.{Reachable}
use Rattle.plans.specs.Plans.{Settings, Planned, planned}
use Rattle.stepping.specs.Step.{work_of, elements, step}
use Rattle.stepping.specs.Reach.{step-turn, step_past}
use Rattle.steps.specs.Called.{called}

module _ (w : Work Iteration) (t : Table) (b : ℕ) (cs : List ℕ) (m : List Float) where
  -- below P it is a turn
  pub called-below : b < w.processors → called w t b cs m ≡ turn (iteration 0 0) w (run t) b cs m
  called-below l = rw (lt-ltb b w.processors l)

  -- else it is refused, by 10
  pub called-past : w.processors ≤ b → called w t b cs m ≡ stays cs m (refuses (met 10 0))
  called-past l = rw (le-ltb b w.processors l)

pub step-called : (s : List ℕ) (w : Settings) (q : Planned) → planned s w ≡ accepted q → (b : ℕ) (cs : List ℕ) (m : List Float)
    → length m ≡ elements q → Reachable (work_of q) cs → step s w b cs m ≡ called (work_of q) q.table b cs m
step-called s w q e b cs m long r = go (dec_lt b q.plan.processors)
  where
    go : Dec (b < q.plan.processors) → step s w b cs m ≡ called (work_of q) q.table b cs m
    go (yes l) = step-turn s w q e b cs m long r l ∙ sym (called-below (work_of q) q.table b cs m l)
    go (no l) =
        let past : q.plan.processors ≤ b = omega arith in
        step_past s w q e b cs m past ∙ sym (called-past (work_of q) q.table b cs m past)
