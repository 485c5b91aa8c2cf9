-- The step calls of an accepted plan are calls as turns has them, over the plan's lists: what turns says of rows of calls holds of theirs.
use Rattle.std.specs.Prelude.{ℕ, ◌≡◌, List}
use Rattle.std.proofs.Common.{arith, ◌∙◌}
use Rattle.order.specs.Rows.{Rows}
use Rattle.model.specs.declared.Iteration.{Iteration}
use Rattle.model.specs.Table.{iteration}
use Rattle.model.specs.Bodies.{run}
use Rattle.refusals.specs.Answers.{accepted}
use Rattle.lists.proofs.FusionLaws.{rows}
use Rattle.turns.specs.Calls.{Calls}
use Rattle.plans.specs.Plans.{Settings, Planned, planned}
use Rattle.plans.specs.Accepted.{Fit}
use Rattle.plans.proofs.Accepted.{planned-accepts}
use Rattle.iterations.specs.MemoryLaws.{run_length}
use Rattle.stepping.specs.Step.{step}
use Rattle.stepping.specs.Reach.{step-turn, step_past}
use Rattle.calls.specs.Rows.{Fits}

module _ (s : List ℕ) (w : Settings) (q : Planned) (planned-is : planned s w ≡ accepted q) where
  pub fit : Fit q.table q.plan
  fit = (planned-accepts s w q planned-is).fit

  abbrev pub lists : Rows Iteration
  lists = rows q.table q.plan fit.wide

  pub calls : Calls (iteration 0 0) lists (run q.table) (Fits q) (step s w)
  calls = record {
    some-phase = omega arith;
    few = fit.few;
    keeps = λ x m e. run_length q.table _ m ∙ e;
    step-turn = step-turn s w q planned-is;
    step_past = step_past s w q planned-is;
  }
