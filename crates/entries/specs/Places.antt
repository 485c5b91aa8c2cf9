-- Which number of an entry is which, by its place: two a block, two a loop, two an iteration, and no others. Laws alone.
use Rattle.std.specs.Prelude.{ℕ, zero, suc, ◌+◌, ◌-◌, ◌*◌, ◌<◌, ◌≡◌, refl, List, [], ◌∷◌, ◌++◌, length, get_or}
use Rattle.std.proofs.Common.{arith, subst, ◌∙◌, length-append}
use Rattle.std.proofs.Math.Decide.{ℕ_discrete}
use Rattle.std.proofs.Math.ListN.{get_or-append}
use Rattle.order.specs.Sequences.{joined}
use Rattle.model.specs.declared.Iteration.{Iteration}
use Rattle.model.specs.Table.{Table, count, iteration}
use Rattle.lists.specs.Fusion.{Fusion, work}
use Rattle.plans.specs.Plans.{Planned, shift_of, peel_of}
use Rattle.entries.specs.Entries.{amounts_of, blocks_of, pairs_of, listed_of, loop_range, empty_as_zero, ranges_of}

-- behind a list, two numbers more
seam : (l : List ℕ) (a b n : ℕ) → length l ≡ n → (get_or (l ++ a ∷ b ∷ []) n 0 ≡ a) × (get_or (l ++ a ∷ b ∷ []) (suc n) 0 ≡ b)
seam [] a b zero e = (refl, refl)
seam [] a b (suc n) e = absurd (omega arith)
seam (x ∷ l) a b zero e = absurd (omega arith)
seam (x ∷ l) a b (suc n) e = seam l a b n (omega arith)

-- ROWS OF PAIRS
module _ (x y : ℕ → ℕ) where
  abbrev row : ℕ → List ℕ
  row n = joined n (λ k. x k ∷ y k ∷ [])

  row-length : (n : ℕ) → length (row n) ≡ 2 * n
  row-length zero = refl
  row-length (suc n) = omega (arith, row-length n, length-append (row n) (x n ∷ y n ∷ []))

  row-pair : (n k : ℕ) → k < n → (get_or (row n) (2 * k) 0 ≡ x k) × (get_or (row n) (2 * k + 1) 0 ≡ y k)
  row-pair zero k l = absurd (omega arith)
  row-pair (suc n) k l = go (ℕ_discrete k n) (row-pair n k)
    where
      at : (m : ℕ) → m < length (row n) → get_or (row (suc n)) m 0 ≡ get_or (row n) m 0
      at m i = get_or-append (row n) (x n ∷ y n ∷ []) 0 m i

      next : suc (2 * n) ≡ 2 * n + 1
      next = omega arith

      go : Dec (k ≡ n) → (k < n → (get_or (row n) (2 * k) 0 ≡ x k) × (get_or (row n) (2 * k + 1) 0 ≡ y k))
          → (get_or (row (suc n)) (2 * k) 0 ≡ x k) × (get_or (row (suc n)) (2 * k + 1) 0 ≡ y k)
      go (yes e) ih =
          let (f, g) = seam (row n) (x n) (y n) (2 * n) (row-length n) in
          rw e (f, subst (λ (m : ℕ). get_or (row (suc n)) m 0 ≡ y n) next g)
      go (no e) ih =
          let (f, g) = ih (omega arith) in
          (at (2 * k) (omega (arith, row-length n)) ∙ f, at (2 * k + 1) (omega (arith, row-length n)) ∙ g)

-- BLOCKS: the first and the last index of block b
pub blocks-count : (c : Fusion) → length (blocks_of c) ≡ 2 * c.processors
blocks-count c = row-length c.edge (λ b. c.edge (suc b) - 1) c.processors

pub block-told : (c : Fusion) (b : ℕ) → b < c.processors
    → (get_or (blocks_of c) (2 * b) 0 ≡ c.edge b) × (get_or (blocks_of c) (2 * b + 1) 0 ≡ c.edge (suc b) - 1)
block-told c = row-pair c.edge (λ b. c.edge (suc b) - 1) c.processors

-- SHIFTS AND PEELS: those of loop k
pub amounts-count : (t : Table) → length (amounts_of t) ≡ 2 * count t
amounts-count t = row-length (shift_of t) (peel_of t) (count t)

pub amount-told : (t : Table) (k : ℕ) → k < count t → (get_or (amounts_of t) (2 * k) 0 ≡ shift_of t k) × (get_or (amounts_of t) (2 * k + 1) 0 ≡ peel_of t k)
amount-told t = row-pair (shift_of t) (peel_of t) (count t)

-- RANGES: the first index of loop k's and the one past its last, 0 and 0 where it is empty
module _ (phase b : ℕ) (q : Planned) where
  pub ranges-count : length (ranges_of phase b q) ≡ 2 * count q.table
  ranges-count = row-length (λ k. (empty_as_zero (loop_range phase b q k)).from) (λ k. (empty_as_zero (loop_range phase b q k)).past) (count q.table)

  pub range-told : (k : ℕ) → k < count q.table
      → (get_or (ranges_of phase b q) (2 * k) 0 ≡ (empty_as_zero (loop_range phase b q k)).from)
      × (get_or (ranges_of phase b q) (2 * k + 1) 0 ≡ (empty_as_zero (loop_range phase b q k)).past)
  range-told = row-pair (λ k. (empty_as_zero (loop_range phase b q k)).from) (λ k. (empty_as_zero (loop_range phase b q k)).past) (count q.table)

-- LISTS: loop and index of the n-th iteration
pairs-count : (l : List Iteration) → length (pairs_of l) ≡ 2 * length l
pairs-count [] = refl
pairs-count (x ∷ l) = omega (arith, pairs-count l)

pair-told : (l : List Iteration) (n : ℕ) → n < length l
    → (get_or (pairs_of l) (2 * n) 0 ≡ (get_or l n (iteration 0 0)).number) × (get_or (pairs_of l) (2 * n + 1) 0 ≡ (get_or l n (iteration 0 0)).index)
pair-told [] n i = absurd (omega arith)
pair-told (x ∷ l) zero i = (refl, refl)
pair-told (x ∷ l) (suc n) i =
    let (f, g) = pair-told l n (omega arith) in
    let e : 2 * suc n ≡ suc (suc (2 * n)) = omega arith in
    let d : 2 * suc n + 1 ≡ suc (suc (2 * n + 1)) = omega arith in
    (rw e f, rw d g)

module _ (phase b : ℕ) (q : Planned) where
  pub list_count : length (listed_of phase b q) ≡ 2 * length (work q.table q.plan phase b)
  list_count = pairs-count (work q.table q.plan phase b)

  pub iteration-told : (n : ℕ) → n < length (work q.table q.plan phase b)
      → (get_or (listed_of phase b q) (2 * n) 0 ≡ (get_or (work q.table q.plan phase b) n (iteration 0 0)).number)
      × (get_or (listed_of phase b q) (2 * n + 1) 0 ≡ (get_or (work q.table q.plan phase b) n (iteration 0 0)).index)
  iteration-told = pair-told (work q.table q.plan phase b)
