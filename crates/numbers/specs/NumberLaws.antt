-- Laws of numbers in bytes.
use Rattle.std.specs.Prelude.{ℕ, ◌+◌, ◌*◌, ◌≡◌, refl, List, [], ◌∷◌, ◌++◌, length}
use Rattle.std.proofs.Common.{arith, ap, ◌∙◌, append_assoc, length-append}
use Rattle.numbers.specs.Numbers.{four, encoded}

pub four-length : (x : ℕ) → length (four x) ≡ 4
unfolding four
four-length x = refl

pub encoded-length : (xs : List ℕ) → length (encoded xs) ≡ 4 * length xs
unfolding encoded
encoded-length [] = refl
encoded-length (x ∷ xs) = length-append (four x) (encoded xs) ∙ ap (λ (n : ℕ). n + length (encoded xs)) (four-length x) ∙ omega (arith, encoded-length xs)

pub encoded-append : (xs ys : List ℕ) → encoded (xs ++ ys) ≡ encoded xs ++ encoded ys
unfolding encoded
encoded-append [] ys = refl
encoded-append (x ∷ xs) ys = ap (λ (l : List ℕ). four x ++ l) (encoded-append xs ys) ∙ (rw append_assoc)
