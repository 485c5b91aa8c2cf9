-- How long a line is: its word, for each field a blank and the number's digits, and a line feed. Laws alone.
use Rattle.std.specs.Prelude.{◌≡◌, List, [], ◌∷◌, ℕ, suc, ◌+◌, ◌≤◌, length}
use Rattle.std.proofs.Common.{arith, length-append}
use Rattle.text.specs.Decimal.{decimal}
use Rattle.text.specs.Line.{field, fields, line}

pub fields-length : (x : ℕ) (xs : List ℕ) → length (fields (x ∷ xs)) ≡ suc (length (decimal x)) + length (fields xs)
fields-length x xs = length-append (field x) (fields xs)

pub line-length : (word xs : List ℕ) → length (line word xs) ≡ length word + length (fields xs)
unfolding line
line-length word xs = length-append word (fields xs)

-- a line of two, three and four numbers of at most so many digits
module _ (word : List ℕ) (x y : ℕ) {a b : ℕ} (h : length (decimal x) ≤ a) (i : length (decimal y) ≤ b) where
  pub two-most : length (line word (x ∷ y ∷ [])) ≤ length word + a + b + 3
  two-most = omega (arith, line-length word (x ∷ y ∷ []), fields-length x (y ∷ []), fields-length y [], h, i)

  pub three-most : (z : ℕ) {c : ℕ} → length (decimal z) ≤ c → length (line word (x ∷ y ∷ z ∷ [])) ≤ length word + a + b + c + 4
  three-most z j =
      omega (arith, line-length word (x ∷ y ∷ z ∷ []), fields-length x (y ∷ z ∷ []), fields-length y (z ∷ []), fields-length z [], h, i, j)

  pub four-most : (z v : ℕ) {c d : ℕ} → length (decimal z) ≤ c → length (decimal v) ≤ d
      → length (line word (x ∷ y ∷ z ∷ v ∷ [])) ≤ length word + a + b + c + d + 5
  four-most z v j k =
      omega (
        arith,
        line-length word (x ∷ y ∷ z ∷ v ∷ []),
        fields-length x (y ∷ z ∷ v ∷ []),
        fields-length y (z ∷ v ∷ []),
        fields-length z (v ∷ []),
        fields-length v [],
        h,
        i,
        j,
        k,
      )
