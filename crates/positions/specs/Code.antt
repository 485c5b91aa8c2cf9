-- What the contracts say of the loops in columns.
use Rattle.std.specs.Prelude.{ℕ, length}
use Rattle.blocks.specs.declared.Range.{Range}
use Rattle.blocks.specs.Sums.{column}
use Rattle.lists.specs.Lists.{ranges}
use Rattle.lists.specs.Below.{weighted}
use Rattle.positions.specs.Search.{below_columns, bound_columns, Bracket, Located}
use Rattle.positions.specs.Lines.{Linear}
use Rattle.positions.specs.declared.list.Columns.{Columns}
use Rattle.positions.specs.declared.list.Weighted.{Weighted}
use Rattle.positions.specs.declared.Position.{Position}
use Rattle.positions.specs.declared.Search.{Search}
use Rattle.positions.specs.declared.Line.{Line}

abbrev pub loops_in : Columns → ℕ
loops_in c = length c.froms.now

abbrev pub range_in : Columns → ℕ → Range
range_in c = ranges c.froms.now c.pasts.now

abbrev pub shift_in : Columns → ℕ → ℕ
shift_in c = column c.shifts.now

-- a bound of all sums
abbrev pub bound_in : Columns → ℕ
bound_in c = bound_columns c.froms.now c.pasts.now c.shifts.now

abbrev pub weight_in : Weighted → ℕ → ℕ
weight_in w = column w.weights.now

-- what loop k adds to the count below t, and the count
abbrev pub weighted_in : Weighted → ℕ → ℕ → ℕ
weighted_in w t k = weighted (range_in w.columns) (shift_in w.columns) (weight_in w) t k

abbrev pub below_in : Weighted → ℕ → ℕ
below_in w t = below_columns w.columns.froms.now w.columns.pasts.now w.columns.shifts.now w.weights.now t

-- what the search keeps and finds, and the line
abbrev pub BracketIn : Weighted → ℕ → Search → Type 0
BracketIn w n s = Bracket w.columns.froms.now w.columns.pasts.now w.columns.shifts.now w.weights.now n s

abbrev pub LocatedIn : Weighted → ℕ → ℕ → Position → Type 0
LocatedIn w most n p = Located w.columns.froms.now w.columns.pasts.now w.columns.shifts.now w.weights.now most n p

abbrev pub LinearIn : Weighted → Line → Type 0
LinearIn w l = Linear w.columns.froms.now w.columns.pasts.now w.columns.shifts.now w.weights.now l
