-- The comparison of two lists of lengths, and the copying of bytes.
use Prim.Native.Nat.{ℕ, suc, ◌+◌, ◌≤◌, ◌<◌}
use native.Mathlib.Omega.{arith}
use native.Mathlib.Numerals.{add-one}
use mathlib.Core.Path.{◌≡◌, refl, sym, ap, ◌∙◌}
use mathlib.Core.Bool.{Bool, false, ◌&&◌, and-false}
use mathlib.Core.List.{List, [], ◌∷◌, ◌++◌, append_assoc}
use lib.ListN.{length, get_or, set, drop, length-append}
use lib.Seq.{take_at, drop_at, drop-drop, paste, paste-zero, paste-suc, length-paste}
use lib.Dec.{eqb}
use lib.Pointwise.{pointwise}
use borrow.Rule.Slice.PartMut.{put_mid}
use Rattle.joins.specs.Joining.{alike}

-- LENGTHS: the library compares two lists as the definition does
pub pointwise_alike : (xs ys : List ℕ) → pointwise eqb xs ys ≡ alike xs ys
unfolding alike
pointwise_alike [] [] = refl
pointwise_alike [] (y ∷ ys) = refl
pointwise_alike (x ∷ xs) [] = refl
pointwise_alike (x ∷ xs) (y ∷ ys) = ap (λ (b : Bool). eqb x y && b) (pointwise_alike xs ys)

-- lists of two lengths are not alike
pub alike-long : (xs ys : List ℕ) → (length xs ≡ length ys → ⊥) → alike xs ys ≡ false
unfolding alike
alike-long [] [] d = absurd (d refl)
alike-long [] (y ∷ ys) d = refl
alike-long (x ∷ xs) [] d = refl
alike-long (x ∷ xs) (y ∷ ys) d = ap (λ (b : Bool). eqb x y && b) (alike-long xs ys (λ e. d (ap suc e))) ∙ and-false (eqb x y)

-- COPIES, byte by byte (the code copies slices whole): so far k bytes of `from` stand in `to` from `at` on
module _ (from before : List ℕ) (at : ℕ) where
  pub record Copied (to : List ℕ) (k : ℕ) : Type 0 where
    pub within : k ≤ length from
    pub so_far : to ≡ paste before at from k
    pub long : length to ≡ length before

  pub copy_start : Copied before 0
  copy_start = record { within = omega arith; so_far = paste-zero before at from; long = refl }

  pub copy_more : (to : List ℕ) (k : ℕ) → Copied to k → at + length from ≤ length before → k < length from → Copied (set to (at + k) (get_or from k 0)) (k + 1)
  copy_more to k c room l =
      let e : set to (at + k) (get_or from k 0) ≡ paste before at from (k + 1) =
      ap (λ (z : List ℕ). set z (at + k) (get_or from k 0)) c.so_far
      ∙ paste-suc before at from k 0 (omega arith) l
      ∙ ap (λ n. paste before at from n) (sym (add-one k)) in
      record { within = omega arith; so_far = e; long = ap length e ∙ length-paste before at from (k + 1) (omega arith) (omega arith) }

  pub copy_done : (to : List ℕ) (k : ℕ) → Copied to k → length from ≤ k → to ≡ paste before at from (length from)
  copy_done to k c l = let e : k ≡ length from = omega (arith, c.within) in c.so_far ∙ ap (λ n. paste before at from n) e

-- two copies, one behind the other: xs stands in front of what was there, and ys takes the place of the n bytes behind it
pub copied-both : (xs ys out : List ℕ) (n : ℕ) → n ≡ length ys → length xs + length ys ≤ length out
    → put_mid (length xs) n (xs ++ drop (length xs) out) ys ≡ (xs ++ ys) ++ drop (length (xs ++ ys)) out
copied-both xs ys out n e room =
    rw (
      take_at xs (drop (length xs) out) (length xs) refl,
      drop_at xs (drop (length xs) out) (length xs) refl,
      e,
      drop-drop (length ys) (length xs) out,
      length-append xs ys,
      append_assoc,
    ) refl
