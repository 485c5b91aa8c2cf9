-- The references of a table in a store, row by row: those before a row, and those ahead of it.
use Rattle.std.specs.Prelude.{ℕ, zero, suc, ◌+◌, ◌-◌, ◌≤◌, ◌<◌, ◌≡◌, List, ◌++◌, length}
use Rattle.std.proofs.Common.{arith, add-one, sym, ap, ◌∙◌, append-nil, append_assoc, length-append}
use Rattle.order.specs.Sequences.{joined}
use Rattle.order.specs.Lists.{mem-joined, joined-split}
use Rattle.model.specs.declared.Reference.{Reference}
use Rattle.model.specs.Table.{count}
use Rattle.model.specs.References.{refs, all_refs}
use Rattle.records.specs.declared.storage.Store.{Store}
use Rattle.reader.specs.Store.{start_at, table_in}
use Rattle.reader.specs.Stored.{Row}
use Rattle.reader.specs.Held.{Held, rows-rise, few-rows, row-held}
use Rattle.reader.specs.Rows.{row_refs, refs_in}
use Rattle.reader.specs.RowLaws.{refs_end, refs-split, refs-up, refs-few, refs-held, refs-range}
use Rattle.chains.specs.Bounds.{InRange}

-- the references before row r of loop k
abbrev pub past_row : (c : Store) (k r : ℕ) → List Reference
past_row c k r = joined k (refs (table_in c)) ++ refs_in c k (start_at c k) r

-- A LOOP OF THE TABLE
module _ {c : Store} (h : Held c) (k : ℕ) (l : k < count (table_in c)) where
  -- its references
  pub refs-in : refs (table_in c) k ≡ refs_in c k (start_at c k) (start_at c (k + 1))
  refs-in = rw (add-one k) (refs-held h k l)

  -- where its rows are
  pub past-few : start_at c (k + 1) ≤ 576
  past-few = rw (add-one k) (few-rows h (suc k) l)

  pub row_in : (r : ℕ) → r < start_at c (k + 1) → Row c r
  row_in r i = row-held h (suc k) r l (rw (add-one k) at i)

  pub start-in : start_at c k < start_at c (k + 1)
  start-in = rw (add-one k) (rows-rise h k l)

  -- the references before a row: none of its own, one row more, all rows
  pub past-start : past_row c k (start_at c k) ≡ joined k (refs (table_in c))
  past-start =
      ap (λ (xs : List Reference). joined k (refs (table_in c)) ++ xs) (refs_end c k (start_at c k) (start_at c k) (omega arith))
      ∙ append-nil (joined k (refs (table_in c)))

  past_split : (r past : ℕ) → start_at c k ≤ r → r ≤ past → past_row c k past ≡ past_row c k r ++ refs_in c k r past
  past_split r past i j =
      let e : start_at c k + (r - start_at c k) ≡ r = omega arith in
      ap (λ (xs : List Reference). joined k (refs (table_in c)) ++ xs) (rw e at (refs-split c k (start_at c k) (r - start_at c k) past (omega arith)))
      ∙ sym (append_assoc (joined k (refs (table_in c))) (refs_in c k (start_at c k) r) (refs_in c k r past))

  pub past_next : (r : ℕ) → start_at c k ≤ r → past_row c k (r + 1) ≡ past_row c k r ++ row_refs c k r
  past_next r i =
      ap (λ (xs : List Reference). joined k (refs (table_in c)) ++ xs) (refs-up c k (start_at c k) r i)
      ∙ sym (append_assoc (joined k (refs (table_in c))) (refs_in c k (start_at c k) r) (row_refs c k r))

  pub past_end : past_row c k (start_at c (k + 1)) ≡ joined (k + 1) (refs (table_in c))
  past_end = rw (add-one k) (ap (λ (xs : List Reference). joined k (refs (table_in c)) ++ xs) (sym (refs-held h k l)))

  -- all references: those before a row, those from it on, and those of later loops
  pub past-ahead : (r : ℕ) → start_at c k ≤ r → r ≤ start_at c (k + 1)
      → (rest : List Reference) × (all_refs (table_in c) ≡ past_row c k r ++ (refs_in c k r (start_at c (k + 1)) ++ rest))
  past-ahead r i j =
      let (rest, same, of) = joined-split (refs (table_in c)) (k + 1) (count (table_in c)) (omega (arith, add-one k)) in (
        rest,
        same
            ∙ ap (λ (xs : List Reference). xs ++ rest) (sym past_end ∙ past_split r (start_at c (k + 1)) i j)
            ∙ append_assoc (past_row c k r) (refs_in c k r (start_at c (k + 1))) rest,
      )

-- there are no more references than rows
pub joined-few : {c : Store} → Held c → (k : ℕ) → k ≤ count (table_in c) → length (joined k (refs (table_in c))) ≤ start_at c k
joined-few h zero l = omega arith
joined-few {c} h (suc k) l =
    rw (refs-held h k l)
    (omega (
      arith,
      joined-few h k (omega arith),
      refs-few c k (start_at c k) (start_at c (suc k)),
      rows-rise h k l,
      length-append (joined k (refs (table_in c))) (refs_in c k (start_at c k) (start_at c (suc k))),
    ))

pub past-few-references : {c : Store} → Held c → (k r : ℕ) → k < count (table_in c) → start_at c k ≤ r → length (past_row c k r) ≤ r
past-few-references {c} h k r l i =
    omega (
      arith,
      joined-few h k (omega arith),
      refs-few c k (start_at c k) r,
      length-append (joined k (refs (table_in c))) (refs_in c k (start_at c k) r),
    )

-- no offset of a table is above 510
pub in-range : {c : Store} → Held c → InRange (all_refs (table_in c))
in-range {c} h x m = let (k, l, i) = mem-joined (refs (table_in c)) (count (table_in c)) m in refs-range h k l x i
