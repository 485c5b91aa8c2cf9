-- Blocks on whole lines: they follow on each other from the least first to the greatest last, every one but the last is a whole number of lines,
-- and every index is in one of them. Where a line has one index, they are the blocks that T is split into. Assumes nothing.
use Rattle.std.specs.Prelude.{ℕ, suc, ◌+◌, ◌-◌, ◌*◌, ◌/◌, ◌≤◌, ◌<◌, ◌≡◌}
use mathlib.Core.List.{Memᴰ as Mem}
use Rattle.model.specs.declared.Iteration.{Iteration}
use Rattle.model.specs.Table.{Table, count, first, last}
use Rattle.blocks.specs.Sums.{least, largest}
use Rattle.blocks.specs.Span.{table_span}
use Rattle.blocks.specs.Blocks.{lines, size, start, width, block_at}
use Rattle.blocks.specs.PartLaws.{In}
use Rattle.lists.specs.Fusion.{Fusion, fused_list}
use Rattle.plans.specs.Plans.{Settings}

-- of a table, for P processors and lines of W indices; T counts the indices
module _ (t : Table) (w : Settings) (c : Fusion) where
  abbrev T : ℕ
  T = (table_span t).count

  abbrev W : ℕ
  W = w.line

  abbrev P : ℕ
  P = w.processors

  pub record OnLines : Type 0 where
    -- there is a block for each processor; the first one begins at the least first, the last one ends at the greatest last
    pub blocks : c.processors ≡ P
    pub first-begins : c.edge 0 ≡ least (count t) (first t)
    pub last-ends : c.edge P ≡ suc (largest (count t) (last t))
    -- a block begins where the one before it is past, and none is empty
    pub consecutive : (b : ℕ) → (block_at c.edge b).past ≡ (block_at c.edge (suc b)).from
    pub some-index : (b : ℕ) → b < P → c.edge b < c.edge (suc b)
    -- block b begins at the least first plus W times the lines before it
    pub begins : (b : ℕ) → b < P → c.edge b ≡ least (count t) (first t) + W * start (lines T W) P b
    -- so every block but the last is a whole number of lines
    pub whole : (b : ℕ) → suc b < P → c.edge (suc b) ≡ c.edge b + W * size (lines T W) P b
    -- 11 asks for blocks as they are cut
    pub widths : (b : ℕ) → b < P → c.edge (suc b) ≡ c.edge b + width T W P b
    -- every index from the least first to the greatest last is in a block, and in no other
    pub in_block : (i : ℕ) → least (count t) (first t) ≤ i → i ≤ largest (count t) (last t) → (b : ℕ) × (b < P) × In i (block_at c.edge b)
    pub in_one : (i a b : ℕ) → In i (block_at c.edge a) → In i (block_at c.edge b) → a ≡ b
    -- before the barrier no two processors run iterations of one line, lines counted from the least first
    pub own_line : (b d : ℕ) (x y : Iteration) → b < P → d < P → Mem x (fused_list t c b) → Mem y (fused_list t c d)
        → (x.index - least (count t) (first t)) / W ≡ (y.index - least (count t) (first t)) / W → b ≡ d
    -- with lines of one index the blocks are those that T is split into
    pub of_one : W ≡ 1 → (b : ℕ) → b ≤ P → c.edge b ≡ least (count t) (first t) + start T P b
