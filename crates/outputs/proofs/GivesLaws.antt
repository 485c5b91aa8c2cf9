-- Laws of what code tells and leaves of bytes that it gives.
use Rattle.std.specs.Prelude.{ℕ, ◌≤◌, ◌<◌, ◌≡◌, refl, List, ◌++◌, length, drop, Result, Ok, Err}
use Rattle.std.proofs.Common.{sym, ap, subst, lt-ltb, le-ltb}
use Rattle.refusals.specs.declared.Refusal.{Refusal}
use Rattle.refusals.specs.Refusals.{met}
use Rattle.refusals.specs.Answers.{AnswerOf, accepted, refused, after}
use Rattle.outputs.specs.Given.{Given, fitted, final}
use Rattle.outputs.specs.Gives.{Gives}

pub gives-refused : (g : Given) (out : List ℕ) (r : Refusal) → g ≡ refused r → Gives g out out (Err r)
unfolding final
gives-refused g out r e = rw e (record { tells = refl; leaves = refl })

-- what follows an answer that refuses, and one that accepts
module _ {T : Type 0} (a : AnswerOf T) (more : T → Given) (out : List ℕ) where
  pub after-refuses : (r : Refusal) → a ≡ refused r → Gives (after a more) out out (Err r)
  after-refuses r e = gives-refused (after a more) out r (ap (λ (x : AnswerOf T). after x more) e)

  pub after-gives : (t : T) → a ≡ accepted t → (left : List ℕ) (o : Result ℕ Refusal) → Gives (more t) out left o → Gives (after a more) out left o
  after-gives t e left o g = subst (λ (x : AnswerOf T). Gives (after x more) out left o) (sym e) g

-- bytes that don't fit, and bytes that do
pub gives-short : (bs out : List ℕ) → length out < length bs → Gives (fitted (length out) bs) out out (Err (met 13 0))
unfolding fitted
gives-short bs out l = gives-refused (fitted (length out) bs) out (met 13 0) (rw (lt-ltb (length out) (length bs) l))

pub gives-written : (bs out left : List ℕ) (n : ℕ) → length bs ≤ length out → n ≡ length bs → left ≡ bs ++ drop (length bs) out
    → Gives (fitted (length out) bs) out left (Ok n)
unfolding fitted final
gives-written bs out left n l e f = let g = le-ltb (length out) (length bs) l in record { tells = rw (g, e); leaves = rw g f }
