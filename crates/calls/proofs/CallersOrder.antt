-- The run in a caller's order. Its row of steps is complete, whatever bytes it takes; so it leaves the plain run's memory.
use Rattle.std.specs.Prelude.{ℕ, ◌≡◌, List, length, Float}
use Rattle.std.proofs.Math.Path.{ap}
use Rattle.std.proofs.Common.{◌∙◌}
use Rattle.refusals.specs.Answers.{accepted}
use Rattle.turns.proofs.CallersOrder as turns
use Rattle.plans.specs.Plans.{Settings, Planned, planned}
use Rattle.iterations.specs.Memory.{remembered}
use Rattle.iterations.specs.MemoryLaws.{remembered-as-long}
use Rattle.plain.specs.Plain.{plain_memory}
use Rattle.stepping.specs.Step.{elements}
use Rattle.stepping.specs.Run.{run_row, memory_of, run_memory}
use Rattle.calls.specs.Rows.{Fits, Complete}
use Rattle.calls.specs.Calls.{calls}
use Rattle.calls.proofs.AnyRow.{unlisted, any-row}

module _ (s : List ℕ) (w : Settings) (q : Planned) (planned-is : planned s w ≡ accepted q) (order : List ℕ) (m : List Float) (fits : Fits q m) where
  -- its row is complete
  pub row-complete : Complete s w q (run_row s w order m q) m
  row-complete = unlisted s w q planned-is (run_row s w order m q) m (turns.row-complete (calls s w q planned-is) order m fits)

  -- so whatever bytes it takes, the run leaves the plain run's memory
  pub any_order : run_memory s w order m ≡ plain_memory s m
  unfolding run_memory
  any_order =
      ap (memory_of s w order m) (ap (remembered elements (length m)) planned-is ∙ remembered-as-long elements (length m) q fits)
      ∙ any-row s w q planned-is (run_row s w order m q) m fits row-complete
