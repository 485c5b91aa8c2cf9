-- What the numbers of an answer say: where the first is not 0 the call is refused and all that it was lent is as found; a step is refused with a
-- ground that holds.
use Rattle.std.specs.Prelude.{ℕ, ◌≡◌, refl, List, Float, length}
use Rattle.std.proofs.Math.Path.{ap}
use Rattle.refusals.specs.declared.Refusal.{Refusal}
use Rattle.refusals.specs.Answers.{refused, refusal_of}
use Rattle.refusals.proofs.AnswerLaws.{told-refused}
use Rattle.outputs.specs.Given.{Given, final, count_of}
use Rattle.plain.specs.Plain.{plain_answer, plain_memory}
use Rattle.stepping.specs.Run.{run_answer, run_memory, run_idle}
use Rattle.model.specs.declared.Iteration.{Iteration}
use Rattle.serial.specs.Serial.{table}
use Rattle.turns.specs.Turn.{Said, refuses, performs, waits, ends, After}
use Rattle.turns.specs.Row.{performing}
use Rattle.plans.specs.Plans.{Settings}
use Rattle.stepping.specs.Step.{report_of, step}
use Rattle.answers.proofs.Refused as answers
use Rattle.answers.specs.Refusing.{StepRefused}
use Rattle.answers.specs.Decided as decided
use Rattle.answers.specs.Untouched as untouched
use Rattle.told.specs.Answers.{reported, refusal_in, report_at}

-- what is told is what the step refuses
told-refuses : (x : Said Iteration) → ((refusal_in (report_of x)).ground ≡ 0 → ⊥) → x ≡ refuses (refusal_in (report_of x))
unfolding refusal_in
told-refuses (refuses r) some = refl
told-refuses (performs x) some = absurd (some refl)
told-refuses waits some = absurd (some refl)
told-refuses ends some = absurd (some refl)

module _ (s : List ℕ) (w : Settings) (b : ℕ) (counts : List ℕ) (m : List Float) where
  abbrev told : Refusal
  told = refusal_in (report_at s w b counts m)

  module _ (some : told.ground ≡ 0 → ⊥) where
    refuses-it : (step s w b counts m).said ≡ refuses told
    refuses-it = told-refuses (step s w b counts m).said some

    -- its ground holds
    pub step-refused : StepRefused s w b counts m told
    step-refused = answers.step-refused s w b counts m told refuses-it

    -- and all is as found
    pub step-untouched : (found : List ℕ)
        → ((step s w b counts m).counts ≡ counts) × ((step s w b counts m).memory ≡ m) × (reported (report_at s w b counts m) found ≡ found)
    unfolding reported
    step-untouched found =
        let (c, l) = untouched.step-untouched s w b counts m (ap performing refuses-it) in
        (c, l, ap (λ (x : Said Iteration). reported (report_of x) found) refuses-it)

  -- a table that is refused decides every step on it
  pub step-decided : (r : Refusal) → table s ≡ refused r → told ≡ r
  unfolding refusal_in
  step-decided r e = ap (λ (a : After Iteration (List Float)). refusal_in (report_of a.said)) (decided.step-decided s r e w b counts m)

-- the other calls: where the first number is not 0, all is as found
pub output-told : (g : Given) (out : List ℕ) → ((refusal_of g).ground ≡ 0 → ⊥) → (final g out ≡ out) × (count_of g ≡ 0)
output-told g out some = untouched.output-untouched g out (refusal_of g) (told-refused g (refusal_of g) refl some)

pub plain-told : (s : List ℕ) (m : List Float) → ((refusal_of (plain_answer s (length m))).ground ≡ 0 → ⊥) → plain_memory s m ≡ m
plain-told s m some = untouched.plain-untouched s m (refusal_of (plain_answer s (length m))) (told-refused (plain_answer s (length m)) _ refl some)

pub run-told : (s : List ℕ) (w : Settings) (order : List ℕ) (m : List Float) → ((refusal_of (run_answer s w (length m))).ground ≡ 0 → ⊥)
    → (run_memory s w order m ≡ m) × (run_idle s w order m ≡ 0)
run-told s w order m some =
    untouched.run-untouched s w order m (refusal_of (run_answer s w (length m))) (told-refused (run_answer s w (length m)) _ refl some)
