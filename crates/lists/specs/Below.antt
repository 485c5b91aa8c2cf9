-- How many iterations have a sum i + s below t, each counted with its loop's weight. One index has weights of 1; of two indices, a
-- loop's weight is the length of its second range. Assumes nothing.
use Rattle.std.specs.Prelude.{ℕ, ◌-◌, ◌*◌, min}
use Rattle.blocks.specs.declared.Range.{Range}
use Rattle.blocks.specs.Sums.{total}

-- how many i of a range have i + s < t
abbrev pub clip : Range → ℕ → ℕ → ℕ
clip r s t = min (t - s) r.past - r.from

unfoldable pub weighted : (ℕ → Range) → (ℕ → ℕ) → (ℕ → ℕ) → ℕ → ℕ → ℕ
weighted r s w t k = w k * clip (r k) (s k) t

unfoldable pub below : ℕ → (ℕ → Range) → (ℕ → ℕ) → (ℕ → ℕ) → ℕ → ℕ
below K r s w t = total K (weighted r s w t)
