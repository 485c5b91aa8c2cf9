-- Block ends that leave each loop's shift and peel room.
use Rattle.std.specs.Prelude.{ℕ, ◌+◌, ◌<◌}
use Rattle.model.specs.Table.{Table, count}
use Rattle.blocks.specs.Index.{Gaps}
use Rattle.lists.specs.Fusion.{Fusion}

module _ (t : Table) (c : Fusion) where
  open c use {shift, peel, processors, edge}

  -- there is a processor, and for each loop the middle blocks are no smaller than its shift and peel together
  pub record Wide : Type 0 where
    pub some : 0 < processors
    pub gaps : (k : ℕ) → k < count t → Gaps processors edge (shift k + peel k)
