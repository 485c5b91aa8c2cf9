-- What code answers, as it is told: the refusal, and the number, 0 where it is refused. By laws it is what an answer and a report are told as.
use Rattle.std.specs.Prelude.{ℕ, ◌≡◌, refl, Result, Ok, Err}
use Rattle.refusals.specs.declared.Refusal.{Refusal}
use Rattle.refusals.specs.Refusals.{none}
use Rattle.refusals.specs.Answers.{AnswerOf, accepted, refused, refusal_of, result_of}
use Rattle.stepping.specs.declared.Report.{Report}
use Rattle.stepping.specs.declared.Report.TheVariants.{Refused, Performed, Waiting, Finished}
use Rattle.told.specs.Answers.{refusal_in}

abbrev pub error_of : {T : Type 0} → Result T Refusal → Refusal
error_of (Ok x) = none
error_of (Err r) = r

abbrev pub number_of : Result ℕ Refusal → ℕ
number_of (Ok n) = n
number_of (Err r) = 0

-- what is refused by a call that reports this
abbrev pub refused_in : Report → Result (Unit {0}) Refusal
refused_in (Refused r) = Err r
refused_in (Performed number index) = Ok tt
refused_in Waiting = Ok tt
refused_in Finished = Ok tt

-- the refusal is that of the answer
pub error-is : {T U : Type 0} (f : T → U) (a : AnswerOf T) → error_of (result_of f a) ≡ refusal_of a
error-is f (refused r) = refl
error-is f (accepted t) = refl

-- the number is what the answer gives, of which a refused one gives 0
pub number-is : {T : Type 0} (f : T → ℕ) (g : AnswerOf T → ℕ) → ((r : Refusal) → g (refused r) ≡ 0) → ((t : T) → g (accepted t) ≡ f t)
    → (a : AnswerOf T) → g a ≡ number_of (result_of f a)
number-is f g zero same (refused r) = zero r
number-is f g zero same (accepted t) = same t

-- the refusal is that of the report
pub refused-is : (r : Report) → error_of (refused_in r) ≡ refusal_in r
unfolding refusal_in
refused-is (Refused r) = refl
refused-is (Performed number index) = refl
refused-is Waiting = refl
refused-is Finished = refl
