-- What the code's contracts cite: barriers, ground 15 and who can step, by the numbers where each processor's phases end. Assumes nothing.
use Rattle.std.specs.Prelude.{ℕ, zero, suc, ◌-◌, ◌≤◌, ◌<◌, ◌≡◌, Bool, cond, Option, Some, None, List, [], length, get_or, ltb, leb}
use Rattle.blocks.specs.Sums.{column, some, total}
use Rattle.turns.specs.Turn.{Work, before}

module _ (ends : List (List ℕ)) where
  -- how many iterations processor b has in the phases before phase n
  abbrev pub before_by : ℕ → ℕ → ℕ
  before_by zero b = 0
  before_by (suc n) b = column (get_or ends n []) b

  -- of the phases up to n, the last one that processor b has come to, with so many iterations done
  abbrev pub come_by : ℕ → ℕ → ℕ → ℕ
  come_by b done zero = 0
  come_by b done (suc n) = cond (leb (before_by (suc n) b) done) (suc n) (come_by b done n)

  abbrev pub phase_by : ℕ → ℕ → ℕ → ℕ
  phase_by phases b done = come_by b done (phases - 1)

-- processor b has an iteration left in the phases before phase n
abbrev pub left_by : List (List ℕ) → List ℕ → ℕ → ℕ → Bool
left_by ends counts n b = ltb (column counts b) (before_by ends n b)

-- processor b may have done so many, phase m being the last one whose barrier is open
abbrev pub most_by : ℕ → List (List ℕ) → ℕ → ℕ → ℕ
most_by P ends m b = cond (ltb b P) (before_by ends (suc m) b) 0

module _ (P : ℕ) (ends : List (List ℕ)) (counts : List ℕ) where
  -- the barrier before phase n is closed
  abbrev pub closed_by : ℕ → Bool
  closed_by n = some P (left_by ends counts n)

  -- of the phases up to n, the last one whose barrier is open: that of phase 0 always is
  abbrev pub open_by : ℕ → ℕ
  open_by zero = 0
  open_by (suc n) = cond (closed_by (suc n)) (open_by n) (suc n)

  abbrev pub last_open_by : ℕ → ℕ
  last_open_by phases = open_by (phases - 1)

  -- processor b has done more
  abbrev pub beyond_by : ℕ → ℕ → Bool
  beyond_by m b = ltb (most_by P ends m b) (column counts b)

  -- ground 15
  abbrev pub wrong_by : ℕ → Bool
  wrong_by phases = some 64 (beyond_by (last_open_by phases))

  -- processor b, one of those below P, can step
  abbrev pub ready_by : ℕ → ℕ → Bool
  ready_by phases = left_by ends counts (suc (last_open_by phases))

-- how many iterations all lists have together
abbrev pub listed_by : ℕ → List (List ℕ) → ℕ → ℕ
listed_by P ends phases = total P (before_by ends phases)

-- so that no sum of 64 of them overflows
abbrev pub EndsFit : List (List ℕ) → Type 0
EndsFit ends = (n b : ℕ) → column (get_or ends n []) b ≤ 3200000

-- three rows of 64
pub record Rows (ends : List (List ℕ)) : Type 0 where
  pub rows : length ends ≡ 3
  pub each : (n : ℕ) → n < 3 → length (get_or ends n []) ≡ 64

-- the number, if it is below n: of the lowest below n that passes a test, the one that passes, if there is one
abbrev pub below : ℕ → ℕ → Option ℕ
below n m = cond (ltb m n) (Some m) None

-- the numbers are where the phases of w end
pub record Ended {A : Type 0} (w : Work A) (ends : List (List ℕ)) : Type 0 where
  pub small : EndsFit ends
  pub is : (n b : ℕ) → n < w.phases → b < w.processors → column (get_or ends n []) b ≡ before w (suc n) b
  pub some-phase : 0 < w.phases
  pub few : w.phases ≤ 3
