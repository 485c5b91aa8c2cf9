-- What the code's contracts cite: the ranges of the loops in a block, from an axis and a store; and the list that kept ranges give.
use Rattle.std.specs.Prelude.{ℕ, zero, suc, ◌<◌, ◌≡◌, List, length, take}
use Rattle.model.specs.declared.Iteration.{Iteration}
use Rattle.records.specs.declared.storage.Store.{Store}
use Rattle.reader.specs.Store.{first_at, last_at, table_in}
use Rattle.blocks.specs.declared.Axis.{Axis}
use Rattle.blocks.specs.declared.Part.{Part}
use Rattle.blocks.specs.declared.Part.TheVariants.{Fused, Peeled}
use Rattle.blocks.specs.declared.Range.{Range}
use Rattle.blocks.specs.Sums.{column}
use Rattle.blocks.specs.Code.{part_of, block_in}
use Rattle.lists.specs.Lists.{fused_columns, peeled_columns}
use Rattle.lists.specs.Fusion.{fusion_in, work}
use Rattle.ranges.specs.declared.Lengths.{Lengths}
use Rattle.ranges.specs.declared.phase_ranges.PhaseRanges.{PhaseRanges}

-- phase 0 runs the fused parts, phase 1 the peeled ones
abbrev pub part_in : ℕ → Part
part_in zero = Fused
part_in (suc n) = Peeled

-- the part of loop k that a block has
abbrev pub part_at : Part → Axis → Store → Range → ℕ → ℕ → Range
part_at part a c blk b k =
    part_of part (record { from = first_at c k; past = suc (last_at c k) }) blk a.blocks b (column a.shifts k) (column a.peels k)

-- in phase n, of block b
abbrev pub range_of : ℕ → Axis → Store → ℕ → ℕ → Range
range_of n a c b k = part_at (part_in n) a c (block_in a b) b k

-- block b's two lists have so many iterations
pub record Measures (a : Axis) (c : Store) (b : ℕ) (l : Lengths) : Type 0 where
  pub fused-is : l.fused ≡ length (work (table_in c) (fusion_in a) 0 b)
  pub peeled-is : l.peeled ≡ length (work (table_in c) (fusion_in a) 1 b)

-- KEPT RANGES
-- the list of phase n that those of the first l loops give
abbrev pub list_of : PhaseRanges → ℕ → ℕ → List Iteration
list_of x l zero = fused_columns (take l x.froms) (take l x.pasts) (take l x.shifts)
list_of x l (suc n) = peeled_columns (take l x.froms) (take l x.pasts)

-- the ranges f and the shifts s of the first l loops are kept
pub record RangesKept (x : PhaseRanges) (l : ℕ) (f : ℕ → Range) (s : ℕ → ℕ) : Type 0 where
  pub from : (k : ℕ) → k < l → column x.froms k ≡ (f k).from
  pub past : (k : ℕ) → k < l → column x.pasts k ≡ (f k).past
  pub shift : (k : ℕ) → k < l → column x.shifts k ≡ s k
