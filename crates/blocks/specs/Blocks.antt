-- P blocks split T indices in order, on whole lines of W indices. Ends are exclusive: block b runs from `from` up to `past`, `past` not in it.
-- Assumes nothing.
use Rattle.std.specs.Prelude.{Bool, cond, ◌&&◌, ◌||◌, ℕ, suc, ◌+◌, ◌-◌, ◌*◌, ◌/◌, ◌%◌, min, ltb, leb}
use Rattle.blocks.specs.Sums.{total, some}
use Rattle.blocks.specs.declared.Range.{Range}

-- T rounded up to whole lines: how many lines there are
unfoldable pub lines : ℕ → ℕ → ℕ
lines T W = (T + W - 1) / W

-- of n lines, the first (n mod P) blocks have one more than the others
unfoldable pub size : ℕ → ℕ → ℕ → ℕ
size n P b = cond (ltb b (n % P)) (n / P + 1) (n / P)

-- how many lines stand before block b: those of the blocks before it
unfoldable pub start : ℕ → ℕ → ℕ → ℕ
start n P b = total b (size n P)

-- how many indices stand before block b: W times the lines before it, and never more than T, so that the last block ends at the greatest last
unfoldable pub before : ℕ → ℕ → ℕ → ℕ → ℕ
before T W P b = min (W * start (lines T W) P b) T

-- so, the first index being `first`, block b begins here
abbrev pub edge : ℕ → ℕ → ℕ → ℕ → ℕ → ℕ
edge first T W P b = first + before T W P b

-- of any row of ends: block b begins at E b, and the next one at E (b + 1)
abbrev pub block_at : (ℕ → ℕ) → ℕ → Range
block_at E b = record { from = E b; past = E (suc b) }

abbrev pub block : ℕ → ℕ → ℕ → ℕ → ℕ → Range
block first T W P b = block_at (edge first T W P) b

-- how many indices block b has, the last one as it is cut
abbrev pub width : ℕ → ℕ → ℕ → ℕ → ℕ
width T W P b = before T W P (suc b) - before T W P b

-- ground 11: fewer lines than P, or P ≥ 2 and some block below the threshold
unfoldable pub is_short : ℕ → ℕ → ℕ → ℕ → Bool
is_short T W P threshold = ltb (lines T W) P || leb 2 P && some P (λ b. ltb (width T W P b) threshold)
