-- The sum, the largest and the least of h 0, .., h (n - 1); and whether some of them passes a test. Assumes nothing.
use Rattle.std.specs.Prelude.{Bool, false, ◌||◌, List, ℕ, zero, suc, ◌+◌, min, max, get_or}

abbrev pub total : ℕ → (ℕ → ℕ) → ℕ
total zero h = 0
total (suc n) h = total n h + h n

-- 0 if there is none
abbrev pub largest : ℕ → (ℕ → ℕ) → ℕ
largest zero h = 0
largest (suc n) h = max (largest n h) (h n)

-- for n of 1 or more
abbrev pub least : ℕ → (ℕ → ℕ) → ℕ
least zero h = h 0
least (suc n) h = min (least n h) (h n)

abbrev pub some : ℕ → (ℕ → Bool) → Bool
some zero f = false
some (suc n) f = some n f || f n

-- numbers kept in a list
abbrev pub column : List ℕ → ℕ → ℕ
column l k = get_or l k 0
