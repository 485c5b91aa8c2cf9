-- What it is that a store holds a table, and that it holds what the records so far say.
use Rattle.std.specs.Prelude.{ℕ, zero, suc, ◌+◌, ◌-◌, ◌*◌, ◌≤◌, ◌<◌, ◌≡◌, List, [], ◌∷◌, ◌++◌, take}
use Rattle.records.specs.declared.Record.{Record}
use Rattle.records.specs.declared.storage.Store.{Store}
use Rattle.records.specs.History.{summary, lengths}
use Rattle.model.specs.Table.{Item, Statement, Loop, Table}
use Rattle.reader.specs.Reading.{loops_of}
use Rattle.reader.specs.Store.{first_at, last_at, start_at, kind_at, value_at, arrays_in, loops_in, table_in, body_from, loops_from}

-- what holds of each row: what a destination or a read has for an offset is one
pub record Row (c : Store) (r : ℕ) : Type 0 where
  pub offset : kind_at c r < 2 → value_at c r ≤ 510

-- a table of so many arrays, loops and rows in a store
pub record InPlace (c : Store) (arrays loops rows : ℕ) : Type 0 where
  pub few-arrays : arrays ≤ 16
  pub few-loops : loops ≤ 16
  pub few-rows : rows ≤ 576
  pub start : start_at c 0 ≡ 0
  pub rising : (k : ℕ) → k < loops → start_at c k < start_at c (suc k)
  pub end : start_at c loops ≡ rows
  pub opening : (k : ℕ) → k < loops → kind_at c (start_at c k) ≡ 1
  pub each : (r : ℕ) → r < rows → Row c r

-- THE STORE HOLDS THE TABLE t: it is read off the store, and what is kept is in order
pub record Holds (c : Store) (t : Table) : Type 0 where
  pub is : table_in c ≡ t
  pub kept : InPlace c (arrays_in c) (loops_in c) (start_at c (loops_in c))

-- the loops of the store, where the latest goes on with the items xs and the statements ss
abbrev pub loop_with : Store → ℕ → ℕ → List Item → List Statement → Loop
loop_with c k past xs ss = record {
  first = first_at c k;
  last = last_at c k;
  body = body_from c (start_at c k) (past - start_at c k) xs ss;
}

unfoldable pub shown : Store → ℕ → ℕ → List Item → List Statement → List Loop
shown c zero past xs ss = []
shown c (suc m) past xs ss = loops_from c 0 m ++ (loop_with c m past xs ss ∷ [])

-- after the records rs, in so many rows
pub record Stored (c : Store) (rs : List Record) (rows : ℕ) : Type 0 where
  pub lens : take (summary rs).arrays c.lengths ≡ lengths rs
  pub loops : (xs : List Item) (ss : List Statement) → loops_of rs xs ss ≡ shown c (summary rs).loops rows xs ss
  pub kept : InPlace c (summary rs).arrays (summary rs).loops rows
  pub statements : (summary rs).statements ≤ 4
  pub items : (summary rs).items ≤ 32
  pub room : rows + 36 ≤ 36 * (summary rs).loops + (summary rs).statements + (summary rs).items
