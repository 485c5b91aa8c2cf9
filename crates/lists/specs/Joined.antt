-- `joined n f` is `f 0 ++ .. ++ f (n - 1)`: its length, and its n-th. Assumes nothing.
use Rattle.std.specs.Prelude.{◌≡◌, refl, List, [], ◌∷◌, ◌++◌, ℕ, zero, suc, ◌+◌, ◌-◌, ◌≤◌, ◌<◌, length, get_or}
use Rattle.std.proofs.Common.{sym, ◌∙◌, ap, add-one, arith, length-append, get_or-append-add}
use mathlib.Core.List.Memᴰ
use Rattle.std.proofs.Math.Decide.{ℕ_discrete}
use Rattle.std.proofs.Math.ListN.{get_or-append, get_or-eq_default}
use Rattle.order.specs.Sequences.{Before, bhere, bthere, joined}
use Rattle.order.specs.Lists.{before-left}
use Rattle.blocks.specs.Sums.{total}
use Rattle.blocks.specs.SumLaws.{total-up}

module _ {A : Type 0} (f : ℕ → List A) where
  pub length-joined : (n : ℕ) → length (joined n f) ≡ total n (λ k. length (f k))
  length-joined zero = refl
  length-joined (suc n) = omega (arith, length-append (joined n f) (f n), length-joined n)

  -- the n-th of a row of lists is in the list where it falls
  pub nth-joined : (d : A) (m k n : ℕ) → k < m → n < length (f k) → get_or (joined m f) (length (joined k f) + n) d ≡ get_or (f k) n d
  nth-joined d zero k n l h = absurd (omega arith)
  nth-joined d (suc m) k n l h = go (ℕ_discrete k m) (nth-joined d m k n)
    where
      short : k < m → length (joined k f) + n < length (joined m f)
      short i = rw (length-joined k, length-joined m) (omega (arith, total-up (suc k) m (λ j. length (f j)) i))

      go : Dec (k ≡ m) → (k < m → n < length (f k) → get_or (joined m f) (length (joined k f) + n) d ≡ get_or (f k) n d)
          → get_or (joined m f ++ f m) (length (joined k f) + n) d ≡ get_or (f k) n d
      go (yes e) ih = rw e (get_or-append-add (joined m f) (f m) n d)
      go (no e) ih = get_or-append (joined m f) (f m) d (length (joined k f) + n) (short (omega arith)) ∙ ih (omega arith) h

  -- a walk over the lists has come to the k-th; of n, `left` are left
  pub walk_here : (d : A) (m k n left : ℕ) → k < m → length (joined k f) + left ≡ n → left < length (f k)
      → get_or (joined m f) n d ≡ get_or (f k) left d
  walk_here d m k n left l e h = ap (λ (j : ℕ). get_or (joined m f) j d) (sym e) ∙ nth-joined d m k left l h

  pub walk-next : (k n left : ℕ) → length (joined k f) + left ≡ n → length (f k) ≤ left
      → length (joined (k + 1) f) + (left - length (f k)) ≡ n
  walk-next k n left e h = rw add-one (omega (arith, length-append (joined k f) (f k)))

  pub walk-out : (d : A) (m k n left : ℕ) → m ≤ k → k ≤ m → length (joined k f) + left ≡ n → get_or (joined m f) n d ≡ d
  walk-out d m k n left g l e =
      let q : k ≡ m = omega arith in
      get_or-eq_default (joined m f) d (omega (arith, ap (λ (j : ℕ). length (joined j f)) q))

-- lists of one
pub before-one : {A : Type 0} {x y z : A} → Before x y (z ∷ []) → ⊥
before-one (bhere e h) = Memᴰ.not-nil h
before-one (bthere b) = Memᴰ.not-nil (before-left b)

pub length-ones : {A : Type 0} (h : ℕ → A) (n : ℕ) → length (joined n (λ k. h k ∷ [])) ≡ n
length-ones h zero = refl
length-ones h (suc n) = length-append (joined n (λ k. h k ∷ [])) (h n ∷ []) ∙ omega (arith, length-ones h n)
