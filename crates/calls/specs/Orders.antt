-- An order of all iterations of a table: every order among the processors in the fused lists, and then every order in the peeled lists.
use Rattle.std.specs.Prelude.{ℕ, ◌<◌, List}
use mathlib.Core.List.{Memᴰ as Mem}
use Rattle.order.specs.Sequences.{Before, NoDup}
use Rattle.model.specs.declared.Iteration.{Iteration}
use Rattle.model.specs.Table.{Inside}
use Rattle.plans.specs.Plans.{Planned}
use Rattle.stepping.specs.Step.{fused, peeled}

module _ (q : Planned) where
  pub record Order (l : List Iteration) : Type 0 where
    -- each iteration of every loop stands in it, nothing else, none twice
    pub each : (x : Iteration) → Inside q.table x → Mem x l
    pub nothing-else : (x : Iteration) → Mem x l → Inside q.table x
    pub single : NoDup l
    -- each processor's iterations keep its list's order
    pub own-fused : (b : ℕ) (x y : Iteration) → b < q.plan.processors → Before x y (fused q b) → Before x y l
    pub own-peeled : (b : ℕ) (x y : Iteration) → b < q.plan.processors → Before x y (peeled q b) → Before x y l
    -- no peeled iteration stands before a fused one
    pub fused-first : (a b : ℕ) (x y : Iteration) → a < q.plan.processors → b < q.plan.processors → Mem x (peeled q a) → Mem y (fused q b)
        → Before x y l → ⊥
