-- Laws of answers: what is accepted and what is refused after an answer, and before a test.
use Rattle.std.specs.Prelude.{ℕ, ◌≡◌, refl, ◌⊎◌, Bool, true, false, Ok, Err}
use Rattle.std.proofs.Common.{sym, ap, subst, inl, inr}
use Rattle.refusals.specs.declared.Refusal.{Refusal}
use Rattle.refusals.specs.Refusals.{met}
use Rattle.refusals.specs.Answers.{AnswerOf, ◌if◌else◌, after, refusal_of, result_of, Only, accepted, refused}

module _ {T : Type 0} where
  pub not-both : {r : Refusal} {t : T} → refused r ≡ accepted t → ⊥
  not-both e = cc

  -- where something is refused, what is told is what is refused
  pub told-refused : (a : AnswerOf T) (r : Refusal) → r ≡ refusal_of a → (r.ground ≡ 0 → ⊥) → a ≡ refused r
  told-refused (refused q) r e some = ap refused (sym e)
  told-refused (accepted t) r e some = absurd (some (ap (λ (x : Refusal). x.ground) e))

  -- a test before what is accepted
  pub if-accepted : (r : Refusal) (b : Bool) (more : AnswerOf T) (t : T) → (refused r if b else more) ≡ accepted t → (b ≡ false) × (more ≡ accepted t)
  if-accepted r true more t e = absurd (not-both e)
  if-accepted r false more t e = (refl, e)

-- what every refusal is: where nothing is refused, and of a test before the rest
module _ {T : Type 0} (P : Refusal → Type 0) where
  pub accepted-only : (t : T) → Only P (accepted t)
  accepted-only t r e = absurd (not-both (sym e))

  pub if-only : (q : Refusal) (b : Bool) (more : AnswerOf T) → (b ≡ true → P q) → (b ≡ false → Only P more) → Only P (refused q if b else more)
  if-only q true more holds rest r e = subst P (ap refusal_of e) (holds refl)
  if-only q false more holds rest r e = rest refl r e

module _ {T U : Type 0} (P : Refusal → Type 0) (a : AnswerOf T) where
  -- of what follows an answer
  pub after-only : (more : T → AnswerOf U) → Only P a → ((t : T) → a ≡ accepted t → Only P (more t)) → Only P (after a more)
  after-only more first rest = go a first rest
    where
      go : (x : AnswerOf T) → Only P x → ((t : T) → x ≡ accepted t → Only P (more t)) → Only P (after x more)
      go (refused q) h k r e = subst P (ap refusal_of e) (h q refl)
      go (accepted t) h k r e = k t refl r e

  -- and of a test of what it accepts, and then more
  pub test-only : (g : ℕ) (test : T → Bool) (more : T → AnswerOf U) → Only P a
      → ((t : T) → a ≡ accepted t → test t ≡ true → P (met g 0)) → ((t : T) → a ≡ accepted t → test t ≡ false → Only P (more t))
      → Only P (after a (λ t. refused (met g 0) if test t else more t))
  test-only g test more first given past =
      after-only (λ t. refused (met g 0) if test t else more t) first (λ t e. if-only P (met g 0) (test t) (more t) (given t e) (past t e))

module _ {T U : Type 0} where
  -- what is accepted after an answer
  pub after-accepted : (a : AnswerOf T) (more : T → AnswerOf U) (u : U) → after a more ≡ accepted u → (t : T) × (a ≡ accepted t) × (more t ≡ accepted u)
  after-accepted (refused r) more u e = absurd (not-both e)
  after-accepted (accepted t) more u e = (t, refl, e)

  -- what is refused after it
  pub after-refused : (a : AnswerOf T) (more : T → AnswerOf U) (r : Refusal) → after a more ≡ refused r
      → (a ≡ refused r) ⊎ ((t : T) × (a ≡ accepted t) × (more t ≡ refused r))
  after-refused (refused q) more r e = inl (let z : q ≡ r = ap refusal_of e in ap refused z)
  after-refused (accepted t) more r e = inr (t, refl, e)

-- WHAT CODE ANSWERS: from the answer to what is answered, and back
module _ {T U : Type 0} where
  pub answers-accepted : (f : T → U) (a : AnswerOf T) (t : T) → a ≡ accepted t → Ok (f t) ≡ result_of f a
  answers-accepted f a t e = sym (ap (result_of f) e)

  pub answers-refused : (f : T → U) (a : AnswerOf T) (r : Refusal) → a ≡ refused r → Err r ≡ result_of f a
  answers-refused f a r e = sym (ap (result_of f) e)

  pub ok-accepted : (f : T → U) (a : AnswerOf T) (u : U) → result_of f a ≡ Ok u → (t : T) × (a ≡ accepted t) × (f t ≡ u)
  ok-accepted f (refused r) u e = cc
  ok-accepted f (accepted t) u e = (t, refl, cc)

  pub err-refused : (f : T → U) (a : AnswerOf T) (r : Refusal) → result_of f a ≡ Err r → a ≡ refused r
  err-refused f (refused q) r e = cc
  err-refused f (accepted t) r e = cc
