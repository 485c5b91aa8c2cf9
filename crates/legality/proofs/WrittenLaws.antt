-- Laws of the numbers of a plan by hand: one for each of sixteen loops, 0 past the last.
use Prim.Native.Nat.{ℕ, zero, suc, ◌+◌, ◌*◌, ◌≤◌, ◌<◌}
use native.Mathlib.Omega.{arith}
use Rattle.std.proofs.Math.Decide.{dec_lt}
use Rattle.std.proofs.Common.{add-one, ◌∙◌}
use Rattle.std.specs.Prelude.{◌≡◌, cond, length, get_or, set, replicate}
use Rattle.std.proofs.Math.Path.{refl, sym, ap}
use Rattle.std.proofs.Math.Bool.{true, false}
use mathlib.Core.List.{List, [], ◌∷◌}
use Rattle.std.proofs.Math.Dec.{ltb}
use borrow.Author.Tests.{lt-ltb, le-ltb}
use Rattle.legality.specs.Written.{number_at, filled_from, filled, amounts_in}

module _ (h : ℕ → ℕ) where
  filled_from-length : (left k n : ℕ) → length (filled_from left k n h) ≡ left
  unfolding filled_from
  filled_from-length zero k n = refl
  filled_from-length (suc left) k n = ap suc (filled_from-length left (suc k) n)

  -- of the loops below n it is h, of the others 0
  filled_from-here : (left k n i : ℕ) → i < left → k + i < n → get_or (filled_from left k n h) i 0 ≡ h (k + i)
  unfolding filled_from
  filled_from-here zero k n i l m = absurd (omega arith)
  filled_from-here (suc left) k n zero l m =
      let e : k + 0 ≡ k = omega arith in
      let b : ltb k n ≡ true = lt-ltb k n (omega arith) in
      rw (b, e)
  filled_from-here (suc left) k n (suc i) l m =
      let e : k + suc i ≡ suc k + i = omega arith in
      rw e (filled_from-here left (suc k) n i (omega arith) (omega arith))

  filled_from-past : (left k n i : ℕ) → n ≤ k + i → get_or (filled_from left k n h) i 0 ≡ 0
  unfolding filled_from
  filled_from-past zero k n i m = refl
  filled_from-past (suc left) k n zero m = let b : ltb k n ≡ false = le-ltb k n (omega arith) in rw b
  filled_from-past (suc left) k n (suc i) m = filled_from-past left (suc k) n i (omega arith)

  -- with no loop left they are zeros
  filled_from-none : (left k n : ℕ) → n ≤ k → filled_from left k n h ≡ replicate left 0
  unfolding filled_from
  filled_from-none zero k n l = refl
  filled_from-none (suc left) k n l =
      let b : ltb k n ≡ false = le-ltb k n l in
      rw b (ap (λ (xs : List ℕ). 0 ∷ xs) (filled_from-none left (suc k) n (omega arith)))

  -- one loop more
  filled_from-set : (left k i : ℕ) → i < left → set (filled_from left k (k + i) h) i (h (k + i)) ≡ filled_from left k (suc (k + i)) h
  unfolding filled_from
  filled_from-set zero k i l = absurd (omega arith)
  filled_from-set (suc left) k zero l =
      let e : k + 0 ≡ k = omega arith in
      let a : ltb k (suc k) ≡ true = lt-ltb k (suc k) (omega arith) in
      rw (e, a)
      (ap (λ (xs : List ℕ). h k ∷ xs) (filled_from-none left (suc k) k (omega arith) ∙ sym (filled_from-none left (suc k) (suc k) (omega arith))))
  filled_from-set (suc left) k (suc i) l =
      let e : k + suc i ≡ suc k + i = omega arith in
      let a : ltb k (suc k + i) ≡ true = lt-ltb k (suc k + i) (omega arith) in
      let b : ltb k (suc (suc k + i)) ≡ true = lt-ltb k (suc (suc k + i)) (omega arith) in
      rw (e, a, b) (ap (λ (xs : List ℕ). h k ∷ xs) (filled_from-set left (suc k) i (omega arith)))

  pub filled-length : (n : ℕ) → length (filled n h) ≡ 16
  filled-length n = filled_from-length 16 0 n

  pub filled-here : (n k : ℕ) → n ≤ 16 → k < n → get_or (filled n h) k 0 ≡ h k
  filled-here n k l m = let e : 0 + k ≡ k = omega arith in rw e at (filled_from-here 16 0 n k (omega arith) (omega arith))

  pub filled-past : (n k : ℕ) → n ≤ k → get_or (filled n h) k 0 ≡ 0
  filled-past n k l = filled_from-past 16 0 n k (omega arith)

  pub filled_none : filled 0 h ≡ replicate 16 0
  filled_none = filled_from-none 16 0 0 (omega arith)

  pub filled_next : (k x : ℕ) → k < 16 → x ≡ h k → set (filled k h) k x ≡ filled (k + 1) h
  filled_next k x l e = let z : 0 + k ≡ k = omega arith in rw (e, add-one k) (rw z at (filled_from-set 16 0 k l))

-- THE NUMBERS OF LOOP k, whatever the stride: its shift is the number `first` of its own, its peel the next; past the last loop both are 0
module _ (stride first n : ℕ) (bs : List ℕ) where
  pub amount-read : (k : ℕ) → n ≤ 16 → k < n
      → (get_or (amounts_in stride first n bs).shifts k 0 ≡ number_at bs (stride * k + first))
      × (get_or (amounts_in stride first n bs).peels k 0 ≡ number_at bs (stride * k + first + 1))
  amount-read k l m = (filled-here _ n k l m, filled-here _ n k l m)

  pub amount-past : (k : ℕ) → n ≤ k → (get_or (amounts_in stride first n bs).shifts k 0 ≡ 0) × (get_or (amounts_in stride first n bs).peels k 0 ≡ 0)
  amount-past k l = (filled-past _ n k l, filled-past _ n k l)

-- where a loop has two numbers
pub pair_read : (n : ℕ) (bs : List ℕ) (k : ℕ) → n ≤ 16 → k < n
    → (get_or (amounts_in 2 0 n bs).shifts k 0 ≡ number_at bs (2 * k)) × (get_or (amounts_in 2 0 n bs).peels k 0 ≡ number_at bs (2 * k + 1))
pair_read n bs k l m =
    let d : 2 * k + 0 ≡ 2 * k = omega arith in
    let e : 2 * k + 0 + 1 ≡ 2 * k + 1 = omega arith in
    let (shift, peel) = amount-read 2 0 n bs k l m in
    (shift ∙ ap (number_at bs) d, peel ∙ ap (number_at bs) e)

-- two that agree below n are one
filled_from-same : (n : ℕ) (g h : ℕ → ℕ) → ((k : ℕ) → k < n → g k ≡ h k) → (left k : ℕ) → filled_from left k n g ≡ filled_from left k n h
unfolding filled_from
filled_from-same n g h f zero k = refl
filled_from-same n g h f (suc left) k = go (dec_lt k n) (filled_from-same n g h f left (suc k))
  where
    go : Dec (k < n) → filled_from left (suc k) n g ≡ filled_from left (suc k) n h
        → ◌≡◌ {A = List ℕ} (cond (ltb k n) (g k) 0 ∷ filled_from left (suc k) n g) (cond (ltb k n) (h k) 0 ∷ filled_from left (suc k) n h)
    go (yes l) e = rw (f k l, e)
    go (no l) e = let b : ltb k n ≡ false = le-ltb k n (omega arith) in rw (b, e)

pub filled-same : (n : ℕ) (g h : ℕ → ℕ) → ((k : ℕ) → k < n → g k ≡ h k) → filled n g ≡ filled n h
filled-same n g h f = filled_from-same n g h f 16 0

-- a row of sixteen numbers that are 0 from n on is one
row_from : (left k n : ℕ) (h : ℕ → ℕ) (xs : List ℕ) → length xs ≡ left → ((i : ℕ) → k + i < n → get_or xs i 0 ≡ h (k + i)) → ((i : ℕ) → n ≤ k + i → get_or xs i 0 ≡ 0)
    → xs ≡ filled_from left k n h
unfolding filled_from
row_from zero k n h [] e f g = refl
row_from zero k n h (x ∷ xs) e f g = absurd (omega arith)
row_from (suc left) k n h [] e f g = absurd (omega arith)
row_from (suc left) k n h (x ∷ xs) e f g =
    go (dec_lt k n)
    (row_from left (suc k) n h xs (omega arith) (λ i l. let q : k + suc i ≡ suc k + i = omega arith in rw q at (f (suc i) (omega arith)))
    (λ i l. g (suc i) (omega arith)))
  where
    z : k + 0 ≡ k
    z = omega arith

    go : Dec (k < n) → xs ≡ filled_from left (suc k) n h → ◌≡◌ {A = List ℕ} (x ∷ xs) (cond (ltb k n) (h k) 0 ∷ filled_from left (suc k) n h)
    go (yes l) q = let b : ltb k n ≡ true = lt-ltb k n l in let d : x ≡ h k = rw z at (f 0 (omega arith)) in rw (b, d, q)
    go (no l) q = let b : ltb k n ≡ false = le-ltb k n (omega arith) in let d : x ≡ 0 = g 0 (omega arith) in rw (b, d, q)

pub row-filled : (n : ℕ) (h : ℕ → ℕ) (xs : List ℕ) → length xs ≡ 16 → ((k : ℕ) → k < n → get_or xs k 0 ≡ h k) → ((k : ℕ) → n ≤ k → get_or xs k 0 ≡ 0) → xs ≡ filled n h
row-filled n h xs e f g =
    row_from 16 0 n h xs e (λ i l. let q : 0 + i ≡ i = omega arith in rw q (f i (omega arith))) (λ i l. g i (omega arith))
