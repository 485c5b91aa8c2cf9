-- The marks of a union and of a single mark, and their count. Assumes nothing.
use mathlib.Core.Path.{◌≡◌, refl, sym, ap, ap₂, ◌∙◌}
use mathlib.Core.Bool.{cond, ◌||◌}
use mathlib.Core.Logic.{◌⊎◌, inl, inr}
use Prim.Native.Nat.{ℕ, zero, suc, ◌+◌, ◌/◌, ◌%◌, ◌^◌, max, ◌<◌}
use native.Mathlib.Nat.{mod-lt, pow-suc, div-div-eq-div-mul, mul-div-mul_right, mul-mod_left, zero-lt-suc, div-eq_of_lt, div-one, div-lt_iff_lt-mul}
use native.Mathlib.Omega.{arith}
use lib.Arith.{digits_mod, lt-one}
use lib.Pow.{pow-lt}
use lib.Bits.{bit_or, or_shr, or_step}
use lib.Count.{ones, ones_step}
use lib.Dec.{eqb, lit<, eqb-zero-suc, eqb-suc-zero, eqb-suc-suc}
use Rattle.marks.specs.Marks.{marked, count_from}

-- a bit is 0 or 1
two : (n : ℕ) → n < 2 → (n ≡ 0) ⊎ (n ≡ 1)
two zero h = inl refl
two (suc zero) h = inr refl
two (suc (suc n)) h = absurd (omega arith)

bit : (n : ℕ) → (n % 2 ≡ 0) ⊎ (n % 2 ≡ 1)
bit n = two (n % 2) (mod-lt n (lit< tt))

either : (u v : ℕ) → (u ≡ 0) ⊎ (u ≡ 1) → (v ≡ 0) ⊎ (v ≡ 1) → (max u v < 2) × (eqb (max u v) 1 ≡ (eqb u 1 || eqb v 1))
either u v (inl a) (inl b) = rw (a, b) (lit< tt, refl)
either u v (inl a) (inr b) = rw (a, b) (lit< tt, refl)
either u v (inr a) (inl b) = rw (a, b) (lit< tt, refl)
either u v (inr a) (inr b) = rw (a, b) (lit< tt, refl)

or-odd : (x y : ℕ) → bit_or x y % 2 ≡ max (x % 2) (y % 2)
or-odd x y = ap (λ (n : ℕ). n % 2) (or_step x y) ∙ digits_mod (bit_or (x / 2) (y / 2)) (either (x % 2) (y % 2) (bit x) (bit y)).0

pub marked-or : (a b p : ℕ) → marked (bit_or a b) p ≡ (marked a p || marked b p)
unfolding marked
marked-or a b p =
    let x = a / 2 ^ p in
    let y = b / 2 ^ p in
    ap (λ (n : ℕ). eqb (n % 2) 1) (or_shr a b p) ∙ ap (λ (n : ℕ). eqb n 1) (or-odd x y) ∙ (either (x % 2) (y % 2) (bit x) (bit y)).1

-- the single mark q
pub marked-one : (q p : ℕ) → marked (2 ^ q) p ≡ eqb p q
unfolding marked
marked-one zero zero = refl
marked-one zero (suc p) = ap (λ (n : ℕ). eqb (n % 2) 1) (div-eq_of_lt (pow-lt (zero-lt-suc p))) ∙ sym (eqb-suc-zero p)
marked-one (suc q) zero = ap (λ (n : ℕ). eqb (n % 2) 1) (div-one (2 ^ suc q)) ∙ ap (λ (n : ℕ). eqb n 1) (ap (λ (n : ℕ). n % 2) (pow-suc 2 q) ∙ mul-mod_left (2 ^ q) 2) ∙ sym (eqb-zero-suc q)
marked-one (suc q) (suc p) =
    ap₂ (λ (a b : ℕ). eqb (a / b % 2) 1) (pow-suc 2 q) (pow-suc 2 p)
    ∙ ap (λ (n : ℕ). eqb (n % 2) 1) (mul-div-mul_right (2 ^ q) (2 ^ p) (lit< tt))
    ∙ marked-one q p ∙ sym (eqb-suc-suc p q)

counted : (n : ℕ) → n % 2 ≡ cond (eqb (n % 2) 1) 1 0
counted n = go (n % 2) (bit n)
  where
    go : (b : ℕ) → (b ≡ 0) ⊎ (b ≡ 1) → b ≡ cond (eqb b 1) 1 0
    go b (inl e) = rw e
    go b (inr e) = rw e

-- the count of the marks from p on, of which there are j
pub size-from : (j n p : ℕ) → n / 2 ^ p < 2 ^ j → ones (n / 2 ^ p) ≡ count_from (marked n) p j
unfolding marked count_from ones
size-from zero n p h = ap ones (lt-one h)
size-from (suc j) n p h =
    let x = n / 2 ^ p in
    let e : x / 2 ≡ n / 2 ^ suc p = div-div-eq-div-mul n (2 ^ p) 2 ∙ ap (λ (m : ℕ). n / m) (sym (pow-suc 2 p)) in
    let l : x / 2 < 2 ^ j = (div-lt_iff_lt-mul (lit< tt)).1 (rw pow-suc at h) in
    ones_step x ∙ ap₂ (λ (a b : ℕ). a + b) (counted x) (ap ones e ∙ size-from j n (suc p) (rw e at l))
