-- Laws of the threshold: some loop attains it, and none is above it.
use Rattle.std.specs.Prelude.{ℕ, ◌≤◌, ◌<◌, ◌≡◌, refl, ◌⊎◌, List, get_or}
use Rattle.std.proofs.Common.{inl}
use Rattle.std.proofs.Math.Logic.{inr, ⊎_elim}
use native.Mathlib.Omega.{arith}
use Rattle.chains.specs.MaximumLaws.{maximum_below-of, maximum_below-upper}
use Rattle.chains.specs.Threshold.{sum_at, threshold}

module _ (s p : List ℕ) where
  -- some loop has this sum, and none a larger one
  pub threshold-attained : (k : ℕ) × (k < 16) × (sum_at s p k ≡ threshold s p)
  unfolding threshold
  threshold-attained =
      ⊎_elim (λ e. (0, omega arith, omega (arith, maximum_below-upper (sum_at s p) 16 0 (omega arith)))) (λ t. t)
      (maximum_below-of (λ n. (n ≡ 0) ⊎ ((k : ℕ) × (k < 16) × (sum_at s p k ≡ n))) (sum_at s p) 16 (inl refl) (λ k l. inr (k, l, refl)))

  pub threshold-upper : (k : ℕ) → k < 16 → sum_at s p k ≤ threshold s p
  unfolding threshold
  threshold-upper k l = maximum_below-upper (sum_at s p) 16 k l

  -- so a bound on every sum is one on the threshold
  pub threshold-bound : (m : ℕ) → ((k : ℕ) → k < 16 → sum_at s p k ≤ m) → threshold s p ≤ m
  unfolding threshold
  threshold-bound m h = maximum_below-of (λ n. n ≤ m) (sum_at s p) 16 (omega arith) h

-- and smaller shifts and peels have no larger one
pub threshold-smaller : (s p s' p' : List ℕ) → ((k : ℕ) → get_or s k 0 ≤ get_or s' k 0) → ((k : ℕ) → get_or p k 0 ≤ get_or p' k 0)
    → threshold s p ≤ threshold s' p'
threshold-smaller s p s' p' a b = threshold-bound s p (threshold s' p') (λ k l. omega (arith, a k, b k, threshold-upper s' p' k l))
