-- What an exported function tells, from what the function below it promises.
use Rattle.std.specs.Prelude.{ℕ, ◌≡◌, refl, List, Float, length, Result}
use Rattle.std.proofs.Common.{sym, ap, subst, ◌∙◌}
use Rattle.refusals.specs.declared.Refusal.{Refusal}
use Rattle.refusals.specs.Answers.{AnswerOf, accepted, refused, result_of}
use Rattle.plans.specs.Plans.{Settings, Planned}
use Rattle.stepping.specs.declared.Report.{Report}
use Rattle.stepping.specs.declared.Report.TheVariants.{Refused, Performed, Waiting, Finished}
use Rattle.stepping.proofs.Meaning.{performed-small}
use Rattle.stepping.specs.Run.{run_answer, run_idle}
use Rattle.running.specs.Runs.{Runs}
use Rattle.told.specs.Answers.{ReportFits, report_at}
use Rattle.told.specs.Results.{number_of}

pub report-small : (s : List ℕ) (w : Settings) (b : ℕ) (cs : List ℕ) (m : List Float) (r : Report) → r ≡ report_at s w b cs m → ReportFits r
unfolding ReportFits
report-small s w b cs m r is = subst ReportFits (sym is) (go (report_at s w b cs m) refl)
  where
    go : (x : Report) → report_at s w b cs m ≡ x → ReportFits x
    go (Refused q) e = tt
    go (Performed k i) e = performed-small s w b cs m k i e
    go Waiting e = tt
    go Finished e = tt

-- a run: how many of its calls were idle
pub run-idle : (s : List ℕ) (w : Settings) (order : List ℕ) (m : List Float) {r : Result ℕ Refusal} {left : List Float} {n : ℕ}
    → Runs s w order m r left → n ≡ number_of r → n ≡ run_idle s w order m
unfolding run_idle
run-idle s w order m h e = e ∙ ap number_of h.tells ∙ go (run_answer s w (length m)) refl
  where
    go : (a : AnswerOf Planned) → run_answer s w (length m) ≡ a → number_of (result_of (λ q. run_idle s w order m) a) ≡ run_idle s w order m
    go (refused r) q = rw q refl
    go (accepted p) q = refl
