-- A number in decimal.
use Rattle.std.specs.Prelude.{cond, List, [], ◌∷◌, ◌++◌, ℕ, zero, suc, ◌+◌, ◌/◌, ◌%◌, ltb}

-- the last digit of x
abbrev pub last_digit : ℕ → ℕ
last_digit x = 48 + x % 10

-- the digits of x, the most significant first, with no zero before them; n bounds how many are asked for
unfoldable pub digits : ℕ → ℕ → List ℕ
digits zero x = []
digits (suc n) x = let front = digits n (x / 10) in cond (ltb x 10) [] front ++ (last_digit x ∷ [])

-- no number x has more than x + 1 digits
unfoldable pub decimal : ℕ → List ℕ
decimal x = digits (suc x) x
