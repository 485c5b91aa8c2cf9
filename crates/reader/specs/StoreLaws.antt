-- What is read off a store, and what a row, bounds and counts that are put there leave and hold.
use Prim.Native.Nat.{ℕ, zero, suc, ◌+◌, ◌<◌}
use Rattle.std.specs.Prelude.{◌≡◌, get_or, take, length}
use native.Mathlib.Omega.{arith}
use Rattle.std.proofs.Math.Path.{refl, ap}
use Rattle.std.proofs.Common.{◌∙◌}
use Rattle.std.proofs.Math.Seq.{get_or-set_same, get_or-set_other}
use Rattle.model.specs.Table.{no_loop, loop, count}
use Rattle.records.specs.declared.table_rows.Row.{Row}
use Rattle.records.specs.declared.storage.Store.{Store}
use Rattle.records.specs.NoRow.{no_row}
use Rattle.reader.specs.Store.{row_at, kind_at, array_at, value_at, kind_number, first_at, last_at, start_at, arrays_in, loops_in, loop_at, loops_from, table_at}
use Rattle.reader.specs.Store.{with_row, with_bounds, with_counts}

-- the table in the store has so many loops, and each is where it is kept
module _ (c : Store) where
  length-loops : (k n : ℕ) → length (loops_from c k n) ≡ n
  unfolding loops_from
  length-loops k zero = refl
  length-loops k (suc n) = ap suc (length-loops (suc k) n)

  get_d-loops : (k n j : ℕ) → j < n → get_or (loops_from c k n) j no_loop ≡ loop_at c (k + j)
  unfolding loops_from
  get_d-loops k zero j l = absurd (omega arith)
  get_d-loops k (suc n) zero l = let e : k ≡ k + 0 = omega arith in ap (loop_at c) e
  get_d-loops k (suc n) (suc j) l = let e : suc k + j ≡ k + suc j = omega arith in get_d-loops (suc k) n j (omega arith) ∙ ap (loop_at c) e

  pub count-table : (a l : ℕ) → count (table_at c a l) ≡ l
  count-table a l = length-loops 0 l

  pub loop-table : (a l k : ℕ) → k < l → loop (table_at c a l) k ≡ loop_at c k
  loop-table a l k h = let e : 0 + k ≡ k = omega arith in get_d-loops 0 l k h ∙ ap (loop_at c) e

-- a row's array is one of sixteen
pub array_small : (c : Store) (r : ℕ) → array_at c r < 16
array_small c r = (row_at c r).small

-- what a row leaves, and what it holds
module _ (c : Store) (k r : ℕ) (x : Row) where
  pub row-lengths : (with_row k r x c).lengths ≡ c.lengths
  unfolding with_row
  row-lengths = refl

  pub row-firsts : (with_row k r x c).firsts ≡ c.firsts
  unfolding with_row
  row-firsts = refl

  pub row-lasts : (with_row k r x c).lasts ≡ c.lasts
  unfolding with_row
  row-lasts = refl

  pub row-starts : (i : ℕ) → (i ≡ k → ⊥) → start_at (with_row k r x c) i ≡ start_at c i
  unfolding with_row
  row-starts i n = get_or-set_other c.starts k i (r + 1) 0 n

  pub row-others : (i : ℕ) → (i ≡ r → ⊥) → row_at (with_row k r x c) i ≡ row_at c i
  unfolding with_row
  row-others i n = get_or-set_other c.rows r i _ no_row n

  pub row-put : r < 576 → row_at (with_row k r x c) r ≡ x
  unfolding with_row
  row-put few = get_or-set_same c.rows r _ no_row (omega (arith, c.sized.rows_sized))

  pub row-kind : r < 576 → kind_at (with_row k r x c) r ≡ kind_number x.kind
  row-kind few = ap (λ (y : Row). kind_number y.kind) (row-put few)

  pub row-array : r < 576 → array_at (with_row k r x c) r ≡ x.array
  row-array few = ap (λ (y : Row). y.array) (row-put few)

  pub row-value : r < 576 → value_at (with_row k r x c) r ≡ x.value
  row-value few = ap (λ (y : Row). y.value) (row-put few)

  pub row-start : k < 17 → start_at (with_row k r x c) k ≡ r + 1
  unfolding with_row
  row-start l = get_or-set_same c.starts k (r + 1) 0 (omega (arith, c.sized.starts_sized))

module _ (c : Store) (k f l : ℕ) where
  pub bounds-firsts : (i : ℕ) → (i ≡ k → ⊥) → first_at (with_bounds k f l c) i ≡ first_at c i
  unfolding with_bounds
  bounds-firsts i n = get_or-set_other c.firsts k i f 0 n

  pub bounds-lasts : (i : ℕ) → (i ≡ k → ⊥) → last_at (with_bounds k f l c) i ≡ last_at c i
  unfolding with_bounds
  bounds-lasts i n = get_or-set_other c.lasts k i l 0 n

  pub bounds-leave : ((with_bounds k f l c).lengths ≡ c.lengths) × ((with_bounds k f l c).starts ≡ c.starts) × ((with_bounds k f l c).rows ≡ c.rows)
      × (arrays_in (with_bounds k f l c) ≡ arrays_in c) × (loops_in (with_bounds k f l c) ≡ loops_in c)
  unfolding with_bounds
  bounds-leave = (refl, refl, refl, refl, refl)

  pub bounds-lengths : (n : ℕ) → take n (with_bounds k f l c).lengths ≡ take n c.lengths
  unfolding with_bounds
  bounds-lengths n = refl

  pub bounds-first : k < 16 → first_at (with_bounds k f l c) k ≡ f
  unfolding with_bounds
  bounds-first few = get_or-set_same c.firsts k f 0 (omega (arith, c.sized.firsts_sized))

  pub bounds-last : k < 16 → last_at (with_bounds k f l c) k ≡ l
  unfolding with_bounds
  bounds-last few = get_or-set_same c.lasts k l 0 (omega (arith, c.sized.lasts_sized))

-- counts leave all else, and are read back
module _ (c : Store) (a l : ℕ) where
  pub counts-leave : ((with_counts a l c).starts ≡ c.starts) × ((with_counts a l c).rows ≡ c.rows)
      × ((with_counts a l c).firsts ≡ c.firsts) × ((with_counts a l c).lasts ≡ c.lasts)
  unfolding with_counts
  counts-leave = (refl, refl, refl, refl)

  pub counts-lengths : (n : ℕ) → take n (with_counts a l c).lengths ≡ take n c.lengths
  unfolding with_counts
  counts-lengths n = refl

  pub counts-arrays : arrays_in (with_counts a l c) ≡ a
  unfolding with_counts
  counts-arrays = refl

  pub counts-loops : loops_in (with_counts a l c) ≡ l
  unfolding with_counts
  counts-loops = refl
