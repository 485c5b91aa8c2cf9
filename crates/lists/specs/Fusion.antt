-- The lists of all processors, for any shifts and peels and any row of block ends. Assumes nothing.
use Rattle.std.specs.Prelude.{List, ℕ, zero, suc}
use Rattle.model.specs.declared.Iteration.{Iteration}
use Rattle.model.specs.Table.{Table, count, first, last}
use Rattle.blocks.specs.declared.Axis.{Axis}
use Rattle.blocks.specs.declared.Range.{Range}
use Rattle.blocks.specs.Sums.{column}
use Rattle.blocks.specs.Span.{table_span}
use Rattle.blocks.specs.Blocks.{block_at, edge as edge_of}
use Rattle.blocks.specs.Parts.{fused_part, peeled_part}
use Rattle.blocks.specs.Code.{edge_in}
use Rattle.lists.specs.Lists.{by_sums, by_loops}

-- a shift and a peel for each loop, and a block for each processor: block b begins at edge b and is past at edge (b + 1)
pub record Fusion : Type 0 where
  pub shift : ℕ → ℕ
  pub peel : ℕ → ℕ
  pub processors : ℕ
  pub edge : ℕ → ℕ

-- a loop's own bounds
abbrev pub own : Table → ℕ → Range
own t k = record { from = first t k; past = suc (last t k) }

module _ (t : Table) (c : Fusion) where
  open c use {shift, peel, processors, edge}

  -- the parts of loop k in block b
  abbrev pub fused_range : ℕ → ℕ → Range
  fused_range b k = fused_part (own t k) (block_at edge b) processors b (shift k) (peel k)

  abbrev pub peeled_range : ℕ → ℕ → Range
  peeled_range b k = peeled_part (own t k) (block_at edge b) processors b (shift k) (peel k)

  -- processor b runs its fused part in rising order of i + s, equal sums in loop order
  abbrev pub fused_list : ℕ → List Iteration
  fused_list b = by_sums (count t) (fused_range b) shift

  -- past the barrier it runs its peeled part loop by loop, i rising
  abbrev pub peeled_list : ℕ → List Iteration
  peeled_list b = by_loops (count t) (peeled_range b)

  -- the lists by phase: 0 the fused lists, 1 the peeled ones
  abbrev pub phases : ℕ
  phases = 2

  abbrev pub work : ℕ → ℕ → List Iteration
  work zero b = fused_list b
  work (suc n) b = peeled_list b

-- with the blocks as docs/TABLE.md cuts them: P of the indices from the least first to the greatest last, on whole lines of W
abbrev pub fusion_of : Table → ℕ → ℕ → (ℕ → ℕ) → (ℕ → ℕ) → Fusion
fusion_of t P W s p = record { shift = s; peel = p; processors = P; edge = edge_of (table_span t).first (table_span t).count W P }

-- the plan that code keeps of one index
abbrev pub fusion_in : Axis → Fusion
fusion_in a = record {
  shift = column a.shifts;
  peel = column a.peels;
  processors = a.blocks;
  edge = edge_in a;
}
