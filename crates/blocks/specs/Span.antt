-- T counts the indices from the least first to the greatest last. Assumes nothing.
use Rattle.std.specs.Prelude.{ℕ, suc, ◌-◌}
use Rattle.model.specs.Table.{Table, count, first, last}
use Rattle.blocks.specs.Sums.{least, largest}
use Rattle.blocks.specs.declared.Span.{Span}

-- of n loops, each from `from k` to `to k`: the least first, and T
unfoldable pub span_of : ℕ → (ℕ → ℕ) → (ℕ → ℕ) → Span
span_of n from to = record { first = least n from; count = suc (largest n to) - least n from }

-- of a table
abbrev pub table_span : Table → Span
table_span t = span_of (count t) (first t) (last t)
