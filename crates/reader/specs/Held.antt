-- What is known of a store that holds a table: one law for each field.
use Rattle.std.specs.Prelude.{ℕ, suc, ◌≤◌, ◌<◌, ◌≡◌, refl, length, take}
use Rattle.std.proofs.Common.{arith, sym, ap, ◌∙◌, length-take-le}
use Rattle.model.specs.Table.{Loop, Table, count, loop, first, last}
use Rattle.records.specs.declared.storage.Store.{Store}
use Rattle.reader.specs.Store.{first_at, last_at, start_at, kind_at, arrays_in, loops_in, loop_at, table_in}
use Rattle.reader.specs.StoreLaws.{count-table, loop-table}
use Rattle.reader.specs.Stored.{Row, Holds}
use Rattle.reader.specs.StoredLaws.{starts-up}

-- the table that a store holds, if its rows are in order
abbrev pub Held : Store → Type 0
Held c = Holds c (table_in c)

module _ {c : Store} {t : Table} (h : Holds c t) where
  pub held : Held c
  held = record { is = refl; kept = h.kept }

  pub lengths-held : t.lengths ≡ take (arrays_in c) c.lengths
  lengths-held = sym (ap (λ (u : Table). u.lengths) h.is)

  pub few-arrays : arrays_in c ≤ 16
  few-arrays = h.kept.few-arrays

  pub arrays-held : length t.lengths ≡ arrays_in c
  arrays-held = ap length lengths-held ∙ length-take-le (arrays_in c) c.lengths (omega (arith, c.sized.lengths_sized, few-arrays))

  pub count_held : count t ≡ loops_in c
  count_held = sym (ap count h.is) ∙ count-table c (arrays_in c) (loops_in c)

  pub few-loops : loops_in c ≤ 16
  few-loops = h.kept.few-loops

  pub loop-held : (k : ℕ) → k < count t → loop t k ≡ loop_at c k
  loop-held k l =
      sym (ap (λ (u : Table). loop u k) h.is) ∙ loop-table c (arrays_in c) (loops_in c) k (omega (arith, count_held))

  pub first-held : (k : ℕ) → k < count t → first t k ≡ first_at c k
  first-held k l = ap (λ (x : Loop). x.first) (loop-held k l)

  pub last-held : (k : ℕ) → k < count t → last t k ≡ last_at c k
  last-held k l = ap (λ (x : Loop). x.last) (loop-held k l)

  -- the rows of a loop: there is one, and they end before the last row
  pub rows-rise : (k : ℕ) → k < count t → start_at c k < start_at c (suc k)
  rows-rise k l = h.kept.rising k (omega (arith, count_held))

  pub rows_end : (k : ℕ) → k ≤ count t → start_at c k ≤ start_at c (loops_in c)
  rows_end k l =
      starts-up c (arrays_in c) (loops_in c) (start_at c (loops_in c)) h.kept k (loops_in c) (omega (arith, count_held)) (omega arith)

  pub few-rows : (k : ℕ) → k ≤ count t → start_at c k ≤ 576
  few-rows k l = omega (arith, rows_end k l, h.kept.few-rows)

  pub row-held : (k r : ℕ) → k ≤ count t → r < start_at c k → Row c r
  row-held k r l i = h.kept.each r (omega (arith, rows_end k l))

  pub opening-held : (k : ℕ) → k < count t → kind_at c (start_at c k) ≡ 1
  opening-held k l = h.kept.opening k (omega (arith, count_held))
