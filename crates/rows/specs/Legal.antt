-- Dependences between references of two loops, and the fusions that keep them. Which pairs of references make a dependence is left open:
-- `Counts r q`, for a reference r of an earlier loop and q of a later one. Assumes nothing.
use mathlib.Core.List.{Memᴰ as Mem}
use Rattle.std.specs.Prelude.{ℕ, ◌+◌, ◌≤◌, ◌<◌}
use Rattle.model.specs.declared.Iteration.{Iteration}
use Rattle.model.specs.declared.Reference.{Reference}
use Rattle.model.specs.Table.{Table, count, Inside}
use Rattle.model.specs.References.{refs, Meet}
use Rattle.chains.specs.Dependence.{backward, forward}
use Rattle.lists.specs.Fusion.{Fusion}

module _ (Counts : Reference → Reference → Type 0) (t : Table) where
  -- a dependence of loop k on an earlier loop j
  pub record Depends (j k : ℕ) (r q : Reference) : Type 0 where
    pub earlier : j < k
    pub there : k < count t
    pub left : Mem r (refs t j)
    pub right : Mem q (refs t k)
    pub counts : Counts r q

  -- no dependence is missed: where iterations of two loops meet, there is one
  abbrev pub NoneMissed : Type 0
  NoneMissed = (x y : Iteration) (r q : Reference) → Inside t x → Inside t y → x.number < y.number
      → Mem r (refs t x.number) → Mem q (refs t y.number) → Meet x.index y.index r q → Counts r q

  -- for each dependence the later loop's shift is at least the earlier's plus the backward amount, and its peel at least the earlier's
  -- plus the forward amount
  pub record Legal (c : Fusion) : Type 0 where
    pub shifted : (j k : ℕ) (r q : Reference) → Depends j k r q → c.shift j + backward r q ≤ c.shift k
    pub peeled : (j k : ℕ) (r q : Reference) → Depends j k r q → c.peel j + forward r q ≤ c.peel k
