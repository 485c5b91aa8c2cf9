-- A row of calls, each naming any number, whatever a call does; and the row of a run in a caller's order.
use Prim.Native.Nat.{ℕ, zero, suc, ◌+◌, ◌<◌}
use Rattle.std.specs.Prelude.{Bool, true, false, ltb, eqb}
use Rattle.std.proofs.Math.Bool.{cond}
use mathlib.Core.List.{List, [], ◌∷◌, ◌++◌}
use mathlib.Core.List.{Memᴰ as Mem}
use Rattle.blocks.specs.Sums.{total}
use Rattle.turns.specs.Turn.{Work, Said, refuses, performs, waits, ends, After, before}

-- the first call gets every count 0
abbrev pub zeros : ℕ → List ℕ
zeros zero = []
zeros (suc n) = 0 ∷ zeros n

abbrev pub none_done : List ℕ
none_done = zeros 64

-- a call that waits, is finished or is refused is idle
abbrev pub performing : {A : Type 0} → Said A → Bool
performing (refuses r) = false
performing (performs x) = true
performing waits = false
performing ends = false

unfoldable pub idle : {A : Type 0} → List (Said A) → ℕ
idle [] = 0
idle (r ∷ rs) = cond (performing r) 0 1 + idle rs

-- the action that a call performs, if it does; and those of a row's calls, in order
abbrev pub action_in : {A : Type 0} → Said A → List A
action_in (refuses r) = []
action_in (performs x) = x ∷ []
action_in waits = []
action_in ends = []

abbrev pub actions_of : {A : Type 0} → List (Said A) → List A
actions_of [] = []
actions_of (s ∷ ss) = action_in s ++ actions_of ss

-- the least of 0 to n - 1 that passes, n if there is none
abbrev pub lowest : ℕ → (ℕ → Bool) → ℕ
lowest zero f = zero
lowest (suc n) f = cond (ltb (lowest n f) n) (lowest n f) (cond (f n) n (suc n))

-- all lists together have so many actions
abbrev pub listed : {A : Type 0} → Work A → ℕ
listed w = total w.processors (before w w.phases)

module _ {A M : Type 0} (step : ℕ → List ℕ → M → After A M) where
  -- each later call gets the counts and the memory as the call before left them
  unfoldable pub reports : List ℕ → List ℕ → M → List (Said A)
  reports [] counts m = []
  reports (b ∷ bs) counts m = let a = step b counts m in a.said ∷ reports bs a.counts a.memory

  unfoldable pub counts_after : List ℕ → List ℕ → M → List ℕ
  counts_after [] counts m = counts
  counts_after (b ∷ bs) counts m = let a = step b counts m in counts_after bs a.counts a.memory

  unfoldable pub memory_after : List ℕ → List ℕ → M → M
  memory_after [] counts m = m
  memory_after (b ∷ bs) counts m = let a = step b counts m in memory_after bs a.counts a.memory

  -- the reports of the calls that name processor d
  unfoldable pub reports_to : ℕ → List ℕ → List ℕ → M → List (Said A)
  reports_to d [] counts m = []
  reports_to d (b ∷ bs) counts m =
      let a = step b counts m in
      cond (eqb b d) (a.said ∷ reports_to d bs a.counts a.memory) (reports_to d bs a.counts a.memory)

  -- a row is complete when its calls have reported every action of every list
  abbrev pub Complete : Work A → List ℕ → M → Type 0
  Complete w bs m = (n b : ℕ) (x : A) → n < w.phases → b < w.processors → Mem x (w.list n b) → Mem (performs x) (reports bs none_done m)

  -- the processor's next call would perform an action
  unfoldable pub can_step : List ℕ → M → ℕ → Bool
  can_step counts m b = performing (step b counts m).said

  module _ (P : ℕ) where
    -- calls for the lowest-numbered processor below P that can step, until there is none, and no more than n
    unfoldable pub closing : ℕ → List ℕ → M → List ℕ
    unfolding can_step
    closing zero counts m = []
    closing (suc n) counts m =
        let b = lowest P (can_step counts m) in
        let a = step b counts m in
        cond (ltb b P) (b ∷ closing n a.counts a.memory) []

    -- the row of a run: a call for each number of the order, then those
    unfoldable pub row_of : ℕ → List ℕ → M → List ℕ
    unfolding closing
    row_of n order m = order ++ closing n (counts_after order none_done m) (memory_after order none_done m)
