-- The threshold: the largest sum of shift and peel of one loop.
use Rattle.std.specs.Prelude.{ℕ, ◌+◌, List, get_or}
use Rattle.chains.specs.Maximum.{maximum_below}

-- of loop k, where s has the shifts and p the peels
abbrev pub sum_at : List ℕ → List ℕ → ℕ → ℕ
sum_at s p k = get_or s k 0 + get_or p k 0

-- of sixteen loops
unfoldable pub threshold : List ℕ → List ℕ → ℕ
unfolding maximum_below
threshold s p = maximum_below 16 (sum_at s p)
