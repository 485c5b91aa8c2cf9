-- A table as it is kept: a row for each destination and each item, in byte order.
use Rattle.std.specs.Prelude.{ℕ, zero, suc, ◌+◌, ◌-◌, ◌%◌, ◌≤◌, ◌<◌, cond, List, [], ◌∷◌, get_or, set, take, eqb}
use Rattle.std.proofs.Common.{◌∙◌}
use Rattle.std.proofs.Math.ListN.{length-set}
use Rattle.std.proofs.Math.Nat.{mod-lt, zero-lt-suc}
use Rattle.records.specs.declared.Record.{Record}
use Rattle.records.specs.declared.Record.TheVariants as rec
use Rattle.records.specs.declared.Summary.{Summary}
use Rattle.records.specs.declared.table_rows.Row.{Row}
use Rattle.records.specs.declared.table_rows.RowKind.{RowKind}
use Rattle.records.specs.declared.table_rows.RowKind.TheVariants as row
use Rattle.records.specs.declared.storage.Store.{Store}
use Rattle.records.specs.NoRow.{no_row}
use Rattle.model.specs.Table.{Item, read, constant, operation, Statement, Loop, Table}

-- the kind of a row by its number: 0 a read, 1 a destination, 2 a constant, 3 an operation
abbrev pub row_kind : ℕ → RowKind
row_kind n = cond (eqb n 0) row.Read (cond (eqb n 1) row.Destination (cond (eqb n 2) row.Constant row.Operation))

abbrev pub kind_number : RowKind → ℕ
kind_number row.Read = 0
kind_number row.Destination = 1
kind_number row.Constant = 2
kind_number row.Operation = 3

-- WHAT IS READ OFF A STORE: loop k has its bounds, and the rows from start_at k up to start_at (k + 1): of each statement its destination, then its
-- items
module _ (c : Store) where
  abbrev pub row_at : ℕ → Row
  row_at r = get_or c.rows r no_row

  abbrev pub first_at : ℕ → ℕ
  first_at k = get_or c.firsts k 0

  abbrev pub last_at : ℕ → ℕ
  last_at k = get_or c.lasts k 0

  abbrev pub start_at : ℕ → ℕ
  start_at k = get_or c.starts k 0

  abbrev pub kind_at : ℕ → ℕ
  kind_at r = kind_number (row_at r).kind

  abbrev pub array_at : ℕ → ℕ
  array_at r = (row_at r).array

  abbrev pub value_at : ℕ → ℕ
  value_at r = (row_at r).value

  abbrev pub arrays_in : ℕ
  arrays_in = c.arrays

  abbrev pub loops_in : ℕ
  loops_in = c.loops

unfoldable pub item_of : ℕ → ℕ → ℕ → Item
item_of kind q v = cond (eqb kind 0) (read q v) (cond (eqb kind 2) (constant v) (operation v))

module _ (c : Store) where
  abbrev pub item_at : ℕ → Item
  item_at r = item_of (kind_at c r) (array_at c r) (value_at c r)

  -- the items from row r on, of n rows, up to the first destination's row; behind the last row the items xs
  unfoldable pub lead_from : ℕ → ℕ → List Item → List Item
  lead_from r zero xs = xs
  lead_from r (suc n) xs = cond (eqb (kind_at c r) 1) [] (item_at r ∷ lead_from (suc r) n xs)

  -- a statement: its destination's row, then the items in the n rows behind it, up to the next destination's
  abbrev pub statement_at : ℕ → ℕ → List Item → Statement
  statement_at r n xs = record { array = array_at c r; offset = value_at c r; items = lead_from (suc r) n xs }

  -- the statements that begin in the n rows from row r on; behind the last row the items xs and the statements ss
  unfoldable pub body_from : ℕ → ℕ → List Item → List Statement → List Statement
  body_from r zero xs ss = ss
  body_from r (suc n) xs ss = cond (eqb (kind_at c r) 1) (statement_at r n xs ∷ body_from (suc r) n xs ss) (body_from (suc r) n xs ss)

  abbrev pub statements_from : ℕ → ℕ → List Statement
  statements_from r n = body_from r n [] []

  abbrev pub loop_at : ℕ → Loop
  loop_at k = record {
    first = first_at c k;
    last = last_at c k;
    body = statements_from (start_at c k) (start_at c (suc k) - start_at c k);
  }

  -- the n loops from loop k on
  unfoldable pub loops_from : ℕ → ℕ → List Loop
  loops_from k zero = []
  loops_from k (suc n) = loop_at k ∷ loops_from (suc k) n

  -- the table of so many arrays and loops
  abbrev pub table_at : ℕ → ℕ → Table
  table_at arrays loops = record { lengths = take arrays c.lengths; loops = loops_from 0 loops }

-- THE TABLE IN A STORE
abbrev pub table_in : Store → Table
table_in c = table_at c (arrays_in c) (loops_in c)

-- an array's length put in its place
unfoldable pub with_length : ℕ → ℕ → Store → Store
with_length q n c = record c {
  lengths = set c.lengths q n;
  sized = record {
    lengths_sized = length-set c.lengths q n ∙ c.sized.lengths_sized;
    firsts_sized = c.sized.firsts_sized;
    lasts_sized = c.sized.lasts_sized;
    starts_sized = c.sized.starts_sized;
    rows_sized = c.sized.rows_sized;
  };
}

-- a row: its array is below 16 (`ArrayFits`), and a row says so of its own
abbrev pub row_of : RowKind → ℕ → ℕ → Row
row_of kind q v = record { kind = kind; array = q % 16; value = v; small = mod-lt q (zero-lt-suc 15) }

-- one row more
unfoldable pub with_row : ℕ → ℕ → Row → Store → Store
with_row k r x c = record c {
  starts = set c.starts k (r + 1);
  rows = set c.rows r x;
  sized = record {
    lengths_sized = c.sized.lengths_sized;
    firsts_sized = c.sized.firsts_sized;
    lasts_sized = c.sized.lasts_sized;
    starts_sized = length-set c.starts k (r + 1) ∙ c.sized.starts_sized;
    rows_sized = length-set c.rows r x ∙ c.sized.rows_sized;
  };
}

unfoldable pub with_bounds : ℕ → ℕ → ℕ → Store → Store
with_bounds k f l c = record c {
  firsts = set c.firsts k f;
  lasts = set c.lasts k l;
  sized = record {
    lengths_sized = c.sized.lengths_sized;
    firsts_sized = length-set c.firsts k f ∙ c.sized.firsts_sized;
    lasts_sized = length-set c.lasts k l ∙ c.sized.lasts_sized;
    starts_sized = c.sized.starts_sized;
    rows_sized = c.sized.rows_sized;
  };
}

unfoldable pub with_counts : ℕ → ℕ → Store → Store
with_counts arrays loops c = record c { arrays = arrays; loops = loops }

-- what a record adds, after records with the summary t, in row r
unfoldable pub kept : Record → Summary → ℕ → Store → Store
kept rec.Unknown t r c = c
kept (rec.Array n) t r c = with_length t.arrays n c
kept (rec.Loop f l q o) t r c = with_row (t.loops + 1) r (row_of row.Destination q o) (with_bounds t.loops f l c)
kept (rec.Read q o) t r c = with_row t.loops r (row_of row.Read q o) c
kept (rec.Constant n) t r c = with_row t.loops r (row_of row.Constant 0 n) c
kept (rec.Operation o) t r c = with_row t.loops r (row_of row.Operation 0 o) c
kept rec.End t r c = c
kept (rec.Statement q o) t r c = with_row t.loops r (row_of row.Destination q o) c

-- how many rows then
unfoldable pub rows_after : Record → ℕ → ℕ
rows_after rec.Unknown r = r
rows_after (rec.Array n) r = r
rows_after (rec.Loop f l q o) r = r + 1
rows_after (rec.Read q o) r = r + 1
rows_after (rec.Constant n) r = r + 1
rows_after (rec.Operation o) r = r + 1
rows_after rec.End r = r
rows_after (rec.Statement q o) r = r + 1

-- places for all that a record adds
pub record Places (t : Summary) (r : ℕ) : Type 0 where
  pub arrays : t.arrays ≤ 16
  pub loops : t.loops ≤ 16
  pub rows : r ≤ 576

-- the array of a record is one of sixteen: one byte of a row has room for it
abbrev pub ArrayFits : Record → Type 0
ArrayFits rec.Unknown = Unit {0}
ArrayFits (rec.Array n) = Unit {0}
ArrayFits (rec.Loop f l q o) = q < 16
ArrayFits (rec.Read q o) = q < 16
ArrayFits (rec.Constant n) = Unit {0}
ArrayFits (rec.Operation o) = Unit {0}
ArrayFits rec.End = Unit {0}
ArrayFits (rec.Statement q o) = q < 16
