-- The sizes of a store's parts.
use Rattle.std.specs.Prelude.{ℕ, ◌≡◌, List, length}
use Rattle.records.specs.declared.table_rows.Row.{Row}

pub record Sized (lengths firsts lasts starts : List ℕ) (rows : List Row) : Type 0 where
  pub lengths_sized : length lengths ≡ 16
  pub firsts_sized : length firsts ≡ 16
  pub lasts_sized : length lasts ≡ 16
  pub starts_sized : length starts ≡ 17
  pub rows_sized : length rows ≡ 576
