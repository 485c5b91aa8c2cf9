-- Laws of numbers that are asked for: what code tells and leaves of them.
use Rattle.std.specs.Prelude.{ℕ, ◌≤◌, ◌<◌, ◌≡◌, List, [], ◌∷◌, ◌++◌, length, Result, Ok, Err}
use Rattle.std.proofs.Common.{arith, sym, ap, subst, ◌∙◌, append-nil}
use Rattle.refusals.specs.declared.Refusal.{Refusal}
use Rattle.refusals.specs.Refusals.{met}
use Rattle.refusals.specs.Answers.{AnswerOf, accepted, refused, after}
use Rattle.text.specs.Lent.{Put}
use Rattle.text.specs.Written.{written-front}
use Rattle.outputs.specs.Given.{Given, fitted}
use Rattle.outputs.specs.Gives.{Gives}
use Rattle.outputs.proofs.GivesLaws.{after-refuses, after-gives, gives-short, gives-written}
use Rattle.numbers.specs.Numbers.{four, encoded}
use Rattle.numbers.specs.NumberLaws.{encoded-length}
use Rattle.numbers.specs.Asked.{numbers}

-- NUMBERS IN LENT BYTES, or 13
module _ (xs out : List ℕ) (size : ℕ) (sized : length (encoded xs) ≡ size) where
  pub numbers-short : length out < size → Gives (fitted (length out) (encoded xs)) out out (Err (met 13 0))
  numbers-short l = gives-short (encoded xs) out (omega arith)

  pub numbers-put : size ≤ length out → {left : List ℕ} {past most : ℕ} → Put out 0 (encoded xs) most left past → Gives (fitted (length out) (encoded xs)) out left (Ok past)
  numbers-put l {left} {past} p =
      gives-written (encoded xs) out left past (omega arith) (omega (arith, p.place)) (p.bytes ∙ written-front out (encoded xs) (omega arith))

-- one number, and two
pub one-put : {x y : ℕ} {out left : List ℕ} {past : ℕ} → x ≡ y → Put out 0 (four x) 4 left past → Put out 0 (encoded (y ∷ [])) 4 left past
unfolding encoded
one-put {x} {y} {out} {left} {past} e p = subst (λ (w : List ℕ). Put out 0 w 4 left past) (ap four e ∙ sym (append-nil (four y))) p

pub two-put : {w x y z : ℕ} {out left : List ℕ} {past : ℕ} → w ≡ y → x ≡ z → Put out 0 (four w ++ four x) 8 left past
    → Put out 0 (encoded (y ∷ z ∷ [])) 8 left past
unfolding encoded
two-put {w} {x} {y} {z} {out} {left} {past} e g p =
    subst (λ (u : List ℕ). Put out 0 u 8 left past) (rw (e, g) (ap (λ (u : List ℕ). four y ++ u) (sym (append-nil (four z))))) p

pub one_size : (x : ℕ) → length (encoded (x ∷ [])) ≡ 4
one_size x = encoded-length (x ∷ [])

pub two_size : (x y : ℕ) → length (encoded (x ∷ y ∷ [])) ≡ 8
two_size x y = encoded-length (x ∷ y ∷ [])

-- A CALL that asks for the numbers f of what is accepted, where the answer is a
module _ {T : Type 0} (a : AnswerOf T) (f : T → List ℕ) (out : List ℕ) where
  abbrev pub given : Given
  given = after a (λ t. numbers (length out) (f t))

  pub entry-refused : (r : Refusal) → a ≡ refused r → Gives given out out (Err r)
  entry-refused r e = after-refuses a _ out r e

  pub entry-given : {t : T} → a ≡ accepted t → {left : List ℕ} {o : Result ℕ Refusal} → Gives (numbers (length out) (f t)) out left o → Gives given out left o
  entry-given {t} e {left} {o} g = after-gives a _ out t e left o g
