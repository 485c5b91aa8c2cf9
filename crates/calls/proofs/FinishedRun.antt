-- All are finished after the row of a run in a caller's order.
use Rattle.std.specs.Prelude.{ℕ, ◌<◌, ◌≡◌, List, Float}
use Rattle.refusals.specs.Answers.{accepted}
use Rattle.plans.specs.Plans.{Settings, Planned, planned}
use Rattle.stepping.specs.declared.Report.TheVariants.{Finished}
use Rattle.stepping.specs.Run.{run_row}
use Rattle.calls.specs.Rows.{Fits, next_report}
use Rattle.calls.proofs.CallersOrder.{row-complete}
use Rattle.calls.proofs.Finished.{all_finished}

module _ (s : List ℕ) (w : Settings) (q : Planned) (planned-is : planned s w ≡ accepted q) (m : List Float) (fits : Fits q m) where
  -- whatever bytes the row takes
  pub run-finished : (order : List ℕ) (b : ℕ) → b < q.plan.processors → next_report s w (run_row s w order m q) m b ≡ Finished
  run-finished order = all_finished s w q planned-is m fits (run_row s w order m q) (row-complete s w q planned-is order m fits)
