-- Laws of how n lines are split over P blocks: how many each has, and that together they have all.
use Rattle.std.specs.Prelude.{◌≡◌, ◌⊎◌, ℕ, zero, suc, ◌+◌, ◌*◌, ◌/◌, ◌%◌, ◌≤◌, ◌<◌, min}
use Rattle.std.proofs.Math.Path.{refl}
use Rattle.std.proofs.Common.{sym, ap, ◌∙◌, ⊎_elim, suc-mul, zero-mul, mul-zero, mod-lt, lt-ltb, le-ltb}
use Rattle.std.proofs.Math.Logic.{inl, inr}
use Rattle.std.proofs.Math.Nat.{div-add-mod}
use Rattle.std.proofs.Math.Decide.{dec_lt}
use native.Mathlib.Omega.{arith}
use Rattle.blocks.specs.SumLaws.{total-up}
use Rattle.blocks.specs.Blocks.{size, start}

module _ (n P : ℕ) where
  pub sizes : (b : ℕ) → ((b < n % P) × (size n P b ≡ n / P + 1)) ⊎ ((n % P ≤ b) × (size n P b ≡ n / P))
  unfolding size
  sizes b = go (dec_lt b (n % P))
    where
      go : Dec (b < n % P) → ((b < n % P) × (size n P b ≡ n / P + 1)) ⊎ ((n % P ≤ b) × (size n P b ≡ n / P))
      go (yes l) = inl (l, simp (lt-ltb b (n % P) l))
      go (no l) = let m : n % P ≤ b = omega arith in inr (m, simp (le-ltb b (n % P) m))

  -- no block has fewer than n / P, and the last one has just as many
  pub size-least : (b : ℕ) → n / P ≤ size n P b
  size-least b = ⊎_elim (λ h. omega arith) (λ h. omega arith) (sizes b)

  pub size-last : (b : ℕ) → suc b ≡ P → size n P b ≡ n / P
  size-last b e = ⊎_elim (λ h. absurd (omega (arith, mod-lt n {m = P} (omega arith)))) (λ h. h.1) (sizes b)

  -- where there are no fewer lines than blocks, each block has one
  pub size-some : 0 < P → P ≤ n → (b : ℕ) → 0 < size n P b
  size-some pos l b = omega (arith, size-least b, some (n / P) refl)
    where
      some : (q : ℕ) → n / P ≡ q → 0 < q
      some zero e = absurd (omega (arith, mod-lt n pos, ap (λ (x : ℕ). P * x + n % P) (sym e) ∙ div-add-mod n P, mul-zero P))
      some (suc q) e = omega arith

  pub start_first : start n P 0 ≡ 0
  unfolding start
  start_first = refl

  -- no gap and no overlap: a block begins where the one before it is past
  pub start-next : (b : ℕ) → start n P (suc b) ≡ start n P b + size n P b
  unfolding start
  start-next b = refl

  pub start_up : (a b : ℕ) → a ≤ b → start n P a ≤ start n P b
  unfolding start
  start_up a b l = total-up a b (size n P) l

  -- where a block begins, at once
  pub start-at : (b : ℕ) → start n P b ≡ b * (n / P) + min b (n % P)
  start-at zero = omega (arith, start_first, zero-mul (n / P))
  start-at (suc b) =
      ⊎_elim
      (λ h. omega (arith, start-next b, start-at b, suc-mul b (n / P)))
      (λ h. omega (arith, start-next b, start-at b, suc-mul b (n / P)))
      (sizes b)

  -- the blocks have all
  pub start-last : 0 < P → start n P P ≡ n
  start-last pos = omega (arith, start-at P, mod-lt n pos, div-add-mod n P)

  -- what the code computes is never more
  pub start_fits : (b : ℕ) → b ≤ P → 0 < P → b * (n / P) + min b (n % P) ≤ n
  start_fits b l pos = omega (arith, start-at b, start_up b P l, start-last pos)
