-- The plain run: the loops in table order, each from first to last, every iteration once. The memory is its whole state.
use Rattle.std.specs.Prelude.{ℕ, zero, suc, ◌-◌, List, Float}
use Rattle.model.specs.Table.{Table, count, first, last, iteration}
use Rattle.model.specs.Bodies.{run}

-- g i, then g (i + 1), .., n of them
abbrev pub upward : {S : Type 0} → (ℕ → S → S) → ℕ → ℕ → S → S
upward g i zero s = s
upward g i (suc n) s = upward g (suc i) n (g i s)

-- loop k, from first to last
abbrev pub looped : Table → ℕ → List Float → List Float
looped t k = upward (λ i. run t (iteration k i)) (first t k) (suc (last t k) - first t k)

abbrev pub plain_run : Table → List Float → List Float
plain_run t = upward (looped t) 0 (count t)
