-- An order of all actions: every order among the processors in the lists of the first phase, then every order in those of the next, and so on.
use Rattle.std.specs.Prelude.{ℕ, ◌<◌, List}
use mathlib.Core.List.{Memᴰ as Mem}
use Rattle.order.specs.Sequences.{Before, NoDup}
use Rattle.turns.specs.Turn.{Work}

module _ {A : Type 0} (w : Work A) where
  open w use {processors, phases, list}

  pub record Order (l : List A) : Type 0 where
    -- each action of each list stands in it, nothing else, none twice
    pub each : (n b : ℕ) (x : A) → n < phases → b < processors → Mem x (list n b) → Mem x l
    pub nothing-else : (x : A) → Mem x l → (n : ℕ) × (b : ℕ) × (n < phases) × (b < processors) × Mem x (list n b)
    pub single : NoDup l
    -- each processor's actions keep its list's order
    pub own-order : (n b : ℕ) (x y : A) → n < phases → b < processors → Before x y (list n b) → Before x y l
    -- none stands before one of an earlier phase
    pub by-phase : (i j a b : ℕ) (x y : A) → i < j → j < phases → a < processors → b < processors → Mem x (list j b) → Mem y (list i a) → Before x y l → ⊥
