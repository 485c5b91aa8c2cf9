-- The largest of several numbers.
use Rattle.std.specs.Prelude.{ℕ, zero, suc, max, List, [], ◌∷◌}

-- of f over a list, 0 over none
unfoldable pub maximum : {A : Type 0} → (A → ℕ) → List A → ℕ
maximum f [] = 0
maximum f (x ∷ xs) = max (f x) (maximum f xs)

-- of f 0, .., f (n − 1), 0 where n is 0
unfoldable pub maximum_below : ℕ → (ℕ → ℕ) → ℕ
maximum_below zero f = 0
maximum_below (suc n) f = max (maximum_below n f) (f n)
