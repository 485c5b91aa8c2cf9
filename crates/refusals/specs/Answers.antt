-- An answer: what was asked for, or a refusal. Tests stand in the order in which they are made.
use Rattle.std.specs.Prelude.{◌≡◌, Bool, true, false, Result, Ok, Err}
use Rattle.refusals.specs.declared.Refusal.{Refusal}
use Rattle.refusals.specs.Refusals.{none}

pub data AnswerOf (T : Type 0) : Type 0 where
  accepted : T → AnswerOf T
  refused : Refusal → AnswerOf T

-- the first where the test holds, else the rest
infixr 20 ◌if◌else◌
abbrev pub ◌if◌else◌ : {T : Type 0} → AnswerOf T → Bool → AnswerOf T → AnswerOf T
◌if◌else◌ a true b = a
◌if◌else◌ a false b = b

-- what follows an answer: its refusal, or more of what it accepts
abbrev pub after : {T U : Type 0} → AnswerOf T → (T → AnswerOf U) → AnswerOf U
after (refused r) more = refused r
after (accepted t) more = more t

-- what is told of an answer
abbrev pub refusal_of : {T : Type 0} → AnswerOf T → Refusal
refusal_of (refused r) = r
refusal_of (accepted t) = none

-- what code answers: what it makes of what was accepted, or the refusal as an error
abbrev pub result_of : {T U : Type 0} → (T → U) → AnswerOf T → Result U Refusal
result_of f (refused r) = Err r
result_of f (accepted t) = Ok (f t)

-- every refusal of an answer is so
abbrev pub Only : {T : Type 0} → (Refusal → Type 0) → AnswerOf T → Type 0
Only P a = (r : Refusal) → a ≡ refused r → P r
