-- The first call's counts are 0; and what a row leaves, and then another.
use Rattle.std.specs.Prelude.{ℕ, zero, suc, ◌+◌, ◌≡◌}
use native.Mathlib.Omega.{arith}
use Rattle.std.proofs.Math.Path.{refl}
use mathlib.Core.List.{List, [], ◌∷◌, ◌++◌}
use Rattle.blocks.specs.Sums.{column}
use Rattle.turns.specs.Turn.{After}
use Rattle.turns.specs.Row.{zeros, none_done, idle, reports, counts_after, memory_after}

column-zeros : (n b : ℕ) → column (zeros n) b ≡ 0
column-zeros zero b = refl
column-zeros (suc n) zero = refl
column-zeros (suc n) (suc b) = column-zeros n b

pub none_done_lem : (b : ℕ) → column none_done b ≡ 0
none_done_lem = column-zeros 64

module _ {A M : Type 0} (step : ℕ → List ℕ → M → After A M) where
  pub counts-append : (bs ds cs : List ℕ) (m : M) → counts_after step (bs ++ ds) cs m ≡ counts_after step ds (counts_after step bs cs m) (memory_after step bs cs m)
  unfolding counts_after memory_after
  counts-append [] ds cs m = refl
  counts-append (b ∷ bs) ds cs m = let a = step b cs m in counts-append bs ds a.counts a.memory

  pub memory-append : (bs ds cs : List ℕ) (m : M) → memory_after step (bs ++ ds) cs m ≡ memory_after step ds (counts_after step bs cs m) (memory_after step bs cs m)
  unfolding counts_after memory_after
  memory-append [] ds cs m = refl
  memory-append (b ∷ bs) ds cs m = let a = step b cs m in memory-append bs ds a.counts a.memory

  pub idle-append : (bs ds cs : List ℕ) (m : M)
      → idle (reports step (bs ++ ds) cs m) ≡ idle (reports step bs cs m) + idle (reports step ds (counts_after step bs cs m) (memory_after step bs cs m))
  unfolding reports idle counts_after memory_after
  idle-append [] ds cs m = omega arith
  idle-append (b ∷ bs) ds cs m = let a = step b cs m in omega (arith, idle-append bs ds a.counts a.memory)
