-- A row of a table as it is kept, where none has been put.
use Rattle.std.proofs.Math.Nat.{zero-lt-suc}
use Rattle.records.specs.declared.table_rows.RowKind.TheVariants as row
use Rattle.records.specs.declared.table_rows.Row.{Row}

-- a row before any is put, and past all rows
abbrev pub no_row : Row
no_row = record { kind = row.Read; array = 0; value = 0; small = zero-lt-suc 15 }
