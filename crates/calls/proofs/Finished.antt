-- All are finished after a complete row of step calls, and only then: the next call of each processor reports it.
use Rattle.std.specs.Prelude.{ℕ, ◌<◌, ◌≡◌, List, Float}
use Rattle.std.proofs.Common.{arith, ap}
use Rattle.refusals.specs.Answers.{accepted}
use Rattle.turns.proofs.Finished as turns
use Rattle.plans.specs.Plans.{Settings, Planned, planned}
use Rattle.stepping.specs.declared.Report.TheVariants.{Finished}
use Rattle.stepping.specs.Step.{report_of}
use Rattle.stepping.proofs.Meaning.{said-ends}
use Rattle.calls.specs.Rows.{Fits, Complete, next_report}
use Rattle.calls.specs.Calls.{calls}
use Rattle.calls.proofs.AnyRow.{listed, unlisted}

module _ (s : List ℕ) (w : Settings) (q : Planned) (planned-is : planned s w ≡ accepted q) (m : List Float) (fits : Fits q m) where
  module _ (bs : List ℕ) where
    pub all_finished : Complete s w q bs m → (b : ℕ) → b < q.plan.processors → next_report s w bs m b ≡ Finished
    all_finished all b l = ap report_of (turns.complete-finished (calls s w q planned-is) bs m fits (listed s w q planned-is bs m all) b (omega arith))

    pub finished-all : ((b : ℕ) → b < q.plan.processors → next_report s w bs m b ≡ Finished) → Complete s w q bs m
    finished-all all = unlisted s w q planned-is bs m (turns.finished-complete (calls s w q planned-is) bs m fits (λ b l. said-ends _ (all b l)))
