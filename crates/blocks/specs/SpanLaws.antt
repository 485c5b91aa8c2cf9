-- Laws of T and the least first: every index of every loop is among them.
use Rattle.std.specs.Prelude.{◌≡◌}
use Rattle.std.proofs.Math.Path.{refl, ap}
use Rattle.std.proofs.Common.{◌∙◌}
use Prim.Native.Nat.{ℕ, suc, ◌+◌, ◌-◌, ◌≤◌, ◌<◌}
use native.Mathlib.Omega.{arith}
use Rattle.blocks.specs.Sums.{least, largest}
use Rattle.blocks.specs.SumLaws.{least-same, least-bound, largest-same, largest-bound, largest-most}
use Rattle.blocks.specs.declared.Span.{Span}
use Rattle.blocks.specs.Span.{span_of}

module _ (n : ℕ) (from to : ℕ → ℕ) where
  pub span_same : (g h : ℕ → ℕ) → 0 < n → ((k : ℕ) → k < n → from k ≡ g k) → ((k : ℕ) → k < n → to k ≡ h k)
      → span_of n from to ≡ span_of n g h
  unfolding span_of
  span_same g h pos e f = rw (least-same n from g pos e, largest-same n to h f)

  -- every index of every loop is among the T
  pub span-from : (k : ℕ) → k < n → (span_of n from to).first ≤ from k
  unfolding span_of
  span-from k l = least-bound n k from l

  pub span-past : (k : ℕ) → k < n → to k < (span_of n from to).first + (span_of n from to).count
  unfolding span_of
  span-past k l = omega (arith, largest-bound n k to l)

  -- from the least first to the greatest last
  pub span_begins : (span_of n from to).first ≡ least n from
  unfolding span_of
  span_begins = refl

  pub span-ends : 0 < n → from 0 ≤ to 0 → (span_of n from to).first + (span_of n from to).count ≡ suc (largest n to)
  unfolding span_of
  span-ends pos h = omega (arith, least-bound n 0 from pos, largest-bound n 0 to pos)

  -- and none is past the greatest last
  pub span-most : (most : ℕ) → 0 < n → from 0 ≤ to 0 → ((k : ℕ) → k < n → to k ≤ most) → (span_of n from to).first + (span_of n from to).count ≤ suc most
  unfolding span_of
  span-most most pos h e = omega (arith, largest-most n to most e, least-bound n 0 from pos, e 0 pos)

  -- a walk over the loops has come to the end
  pub span-found : (k low high T : ℕ) → n ≤ k → k ≤ n → low ≡ least k from → high ≡ largest k to → T ≡ high + 1 - low
      → ◌≡◌ {A = Span} (record { first = low; count = T }) (span_of n from to)
  unfolding span_of
  span-found k low high T g l e f q =
      let z : k ≡ n = omega arith in
      let a : low ≡ least n from = e ∙ ap (λ (j : ℕ). least j from) z in
      let b : T ≡ suc (largest n to) - least n from = omega (arith, ap (λ (j : ℕ). largest j to) z) in
      rw (a, b)
