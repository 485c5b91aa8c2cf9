-- Sets of sixteen marks, and their masks, one mark a bit.
use Rattle.std.specs.Prelude.{ℕ, zero, suc, ◌+◌, ◌/◌, ◌%◌, ◌^◌, Bool, cond, eqb}

-- a set, by which of the numbers from 0 on are in it
abbrev pub Marks : Type 0
Marks = ℕ → Bool

-- how many of the n numbers from q on are in a set
unfoldable pub count_from : Marks → ℕ → ℕ → ℕ
count_from s q zero = 0
count_from s q (suc n) = cond (s q) 1 0 + count_from s (suc q) n

-- how many of the sixteen
abbrev pub size : Marks → ℕ
size s = count_from s 0 16

-- mark q is in the mask m
unfoldable pub marked : ℕ → Marks
marked m q = eqb (m / 2 ^ q % 2) 1
