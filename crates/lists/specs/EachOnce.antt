-- Each iteration stands in one list, once: in the fused or in the peeled list of one processor, at one place there, and nothing else stands in any.
use Rattle.std.specs.Prelude.{ℕ, ◌<◌, ◌≡◌, ◌⊎◌}
use mathlib.Core.List.{Memᴰ as Mem}
use Rattle.order.specs.Sequences.{NoDup}
use Rattle.model.specs.declared.Iteration.{Iteration}
use Rattle.model.specs.Table.{Table, Inside}
use Rattle.lists.specs.Fusion.{Fusion, fused_list, peeled_list}

pub record EachOnce (t : Table) (c : Fusion) : Type 0 where
  -- it stands in some processor's list
  pub stands : (x : Iteration) → Inside t x → (b : ℕ) × (b < c.processors) × (Mem x (fused_list t c b) ⊎ Mem x (peeled_list t c b))
  -- in one list alone
  pub one-fused : (x : Iteration) (b d : ℕ) → b < c.processors → d < c.processors → Mem x (fused_list t c b) → Mem x (fused_list t c d) → b ≡ d
  pub one-peeled : (x : Iteration) (b d : ℕ) → b < c.processors → d < c.processors → Mem x (peeled_list t c b) → Mem x (peeled_list t c d) → b ≡ d
  pub not-both : (x : Iteration) (b d : ℕ) → b < c.processors → d < c.processors → Mem x (fused_list t c b) → Mem x (peeled_list t c d) → ⊥
  -- there once
  pub fused-once : (b : ℕ) → b < c.processors → NoDup (fused_list t c b)
  pub peeled-once : (b : ℕ) → b < c.processors → NoDup (peeled_list t c b)
  -- and nothing but the table's iterations stands in a list
  pub fused-inside : (b : ℕ) (x : Iteration) → b < c.processors → Mem x (fused_list t c b) → Inside t x
  pub peeled-inside : (b : ℕ) (x : Iteration) → b < c.processors → Mem x (peeled_list t c b) → Inside t x
