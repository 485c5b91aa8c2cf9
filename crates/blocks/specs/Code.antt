-- A loop's part by the code's own name of it, and the blocks of a plan that code keeps along one index.
use Rattle.std.specs.Prelude.{ℕ, ◌+◌, ◌^◌, ◌<◌}
use Rattle.blocks.specs.declared.Axis.{Axis}
use Rattle.blocks.specs.declared.Range.{Range}
use Rattle.blocks.specs.declared.Part.{Part}
use Rattle.blocks.specs.declared.Part.TheVariants.{Fused, Peeled}
use Rattle.blocks.specs.Blocks.{edge, block}
use Rattle.blocks.specs.Parts.{fused_part, peeled_part}

abbrev pub part_of : Part → Range → Range → ℕ → ℕ → ℕ → ℕ → Range
part_of Fused = fused_part
part_of Peeled = peeled_part

-- block b of an axis, and where it begins
abbrev pub block_in : Axis → ℕ → Range
block_in a b = block a.first a.count a.line a.blocks b

abbrev pub edge_in : Axis → ℕ → ℕ
edge_in a b = edge a.first a.count a.line a.blocks b

-- its numbers are such that code can cut it into blocks: a line has an index, and no sum is too large
abbrev pub Cuttable : Axis → Type 0
Cuttable a = (0 < a.line) × (a.first + a.count + a.line < 2 ^ 31)
