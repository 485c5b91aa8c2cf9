-- Which iterations are in a part.
use Rattle.std.specs.Prelude.{ℕ, ◌≤◌, ◌<◌}
use Rattle.blocks.specs.declared.Range.{Range}

abbrev pub In : ℕ → Range → Type 0
In i r = (r.from ≤ i) × (i < r.past)
