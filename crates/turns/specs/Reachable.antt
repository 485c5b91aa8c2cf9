-- The counts that rows of calls reach.
use Rattle.std.specs.Prelude.{ℕ, ◌≤◌, ◌<◌, ◌≡◌, List, length}
use Rattle.blocks.specs.Sums.{column}
use Rattle.turns.specs.Turn.{Work, before}

module _ {A : Type 0} (w : Work A) where
  open w use {processors, phases}

  -- the barrier before phase n is open: every list of an earlier phase is used up
  abbrev pub Opened : List ℕ → ℕ → Type 0
  Opened cs n = (b : ℕ) → b < processors → before w n b ≤ column cs b

  pub record Reachable (cs : List ℕ) : Type 0 where
    pub size : length cs ≡ 64
    pub below : (b : ℕ) → b < processors → column cs b ≤ before w phases b
    pub barrier : (n : ℕ) → n < phases → (b : ℕ) → b < processors → before w n b < column cs b → Opened cs n
    pub beyond : (b : ℕ) → b < 64 → processors ≤ b → column cs b ≡ 0
