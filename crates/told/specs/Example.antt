-- The four numbers of an answer: each is written, whatever was lent; and by an example, in which loop 1 is serial and the fourth of its reads is the
-- lowest that collides.
use Rattle.std.specs.Prelude.{ℕ, ◌≡◌, [], ◌∷◌, get_or}
use Rattle.std.proofs.Math.Path.{refl}
use Rattle.std.proofs.Common.{arith}
use Rattle.refusals.specs.declared.Refusal.{Refusal}
use Rattle.refusals.specs.Answers.{refusal_of}
use Rattle.serial.specs.Serial.{table}
use Rattle.turns.specs.Row.{none_done}
use Rattle.plans.specs.Plans.{settings}
use Rattle.known.specs.Bytes.{several_reads, example}
use Rattle.known.specs.Memory.{own, said_from}
use Rattle.known.specs.Known.{known}
use Rattle.stepping.specs.declared.Report.{Report}
use Rattle.stepping.specs.declared.Report.TheVariants.{Refused, Performed, Waiting, Finished}
use Rattle.told.specs.Answers.{answered, reported, report_at}

module _ (a b c d : ℕ) where
  pub all-written : (r : Refusal) → answered r (a ∷ b ∷ c ∷ d ∷ []) ≡ r.ground ∷ r.place ∷ r.first ∷ r.second ∷ []
  all-written r = refl

  pub four-numbers : answered (refusal_of (table several_reads)) (a ∷ b ∷ c ∷ d ∷ []) ≡ 9 ∷ 1 ∷ 0 ∷ 4 ∷ []
  four-numbers = rw known.lowest-partner refl

  -- a report's three numbers, whatever was lent: 1, the loop and the iteration; 2 where the processor waits; 3 where it is finished
  pub performed-written : (loop index : ℕ) → reported (Performed loop index) (a ∷ b ∷ c ∷ []) ≡ 1 ∷ loop ∷ index ∷ []
  unfolding reported
  performed-written loop index = refl

  pub waiting-written : reported Waiting (a ∷ b ∷ c ∷ []) ≡ 2 ∷ 0 ∷ 0 ∷ []
  unfolding reported
  waiting-written = refl

  pub finished-written : reported Finished (a ∷ b ∷ c ∷ []) ≡ 3 ∷ 0 ∷ 0 ∷ []
  unfolding reported
  finished-written = refl

  -- the example's first step of processor 0, from bytes: loop 0, iteration 1
  pub first-written : reported (report_at example (settings 2) 0 none_done own) (a ∷ b ∷ c ∷ []) ≡ 1 ∷ 0 ∷ 1 ∷ []
  unfolding reported said_from
  first-written = refl

  -- a report whose first number was 0 before the call has 0 there after it only if the call was refused
  pub zero-refused : (r : Report) → get_or (reported r (0 ∷ b ∷ c ∷ [])) 0 0 ≡ 0 → (x : Refusal) × (r ≡ Refused x)
  unfolding reported
  zero-refused (Refused x) e = (x, refl)
  zero-refused (Performed number index) e = absurd (omega (arith, e))
  zero-refused Waiting e = absurd (omega (arith, e))
  zero-refused Finished e = absurd (omega (arith, e))
