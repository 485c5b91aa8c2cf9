-- What the walk over pairs of references has come to.
use Rattle.std.specs.Prelude.{ℕ, ◌*◌, ◌≤◌, ◌<◌, ◌≡◌, List, [], ◌∷◌, length}
use Rattle.order.specs.Sequences.{run_all}
use Rattle.model.specs.declared.Reference.{Reference}
use Rattle.model.specs.Table.{Table, count}
use Rattle.chains.specs.TableGraph.{graph}
use Rattle.chains.specs.Steps.{Pair, at, pair_of, placed_from, pairs_to, steps_to, step, Following, Numbers, no_numbers}
use Rattle.chains.specs.Bounds.{Small}
use Rattle.columns.specs.declared.Columns.{Columns}
use Rattle.columns.specs.Columns.{ref_at, refs_from, Marked, Sized}
use Rattle.amounts.specs.declared.Amounts.{Amounts}
use Rattle.amounts.specs.declared.Progress.{Progress}

-- a reference of one of the table's loops, with an offset that a table can have
pub record ReferenceFits (t : Table) (x : Reference) : Type 0 where
  pub number : x.number < count t
  pub few : x.number < 16
  pub offset : x.offset ≤ 510

-- the reference at position x of the columns, and y, of a later loop
pub record Pairable (t : Table) (columns : Columns) (x : ℕ) (y : Reference) : Type 0 where
  pub few : x < 576
  pub fits : ReferenceFits t (ref_at columns x)
  pub marked : Marked columns x
  pub earlier : (ref_at columns x).number < y.number
  pub later : ReferenceFits t y
  pub array : y.array < 16

-- the references at positions below `from` are of loops before y's
pub record Earlier (t : Table) (columns : Columns) (from : ℕ) (y : Reference) : Type 0 where
  pub few : from ≤ 576
  pub later : ReferenceFits t y
  pub array : y.array < 16
  pub each : (x : ℕ) → x < from → Pairable t columns x y

-- shifts and peels that fit their numbers: no offset is above 510, so no amount is
pub record Bounded (shifts peels : List ℕ) : Type 0 where
  pub shifts-long : length shifts ≡ 16
  pub peels-long : length peels ≡ 16
  pub shifts-small : Small 510 shifts
  pub peels-small : Small 510 peels

abbrev pub numbers_in : (shifts peels : List ℕ) (made : ℕ) → Numbers
numbers_in shifts peels made = record { shifts = shifts; peels = peels; made = made }

abbrev pub numbers_of : Amounts → ℕ → Numbers
numbers_of amounts made = numbers_in amounts.shifts amounts.peels made

-- the walk has come past ys, the table's first references: they are n and stand in the columns, and the steps to them have left these numbers
pub record Walked (t : Table) (ys : List Reference) (n : ℕ) (columns : Columns) (a : Numbers) : Type 0 where
  pub sized : Sized columns
  pub references : n ≡ length ys
  pub kept : refs_from columns 0 (length ys) ≡ ys
  pub marked : (x : ℕ) → x < length ys → Marked columns x
  pub numbers : a ≡ run_all (step (graph t)) (steps_to (graph t) (placed_from 0 ys)) no_numbers
  pub few : a.made ≤ 576 * n
  pub bounded : Bounded a.shifts a.peels

-- so has the walk as the code keeps it, with so many steps made
abbrev pub WalkedTo : Table → List Reference → Progress → ℕ → Type 0
WalkedTo t ys walk made = Walked t ys walk.references walk.columns (numbers_of walk.amounts made)

-- the pair of the reference at position x of the columns and y, wherever y stands, is the next step when so many have been made
abbrev pub NextStep : (t : Table) (columns : Columns) (x : ℕ) (y : Reference) (made : ℕ) → Type 0
NextStep t columns x y made = (n : ℕ) × Following (graph t) made (pair_of (at x (ref_at columns x)) (at n y) ∷ [])

-- the pairs of y, at position n, with the references at positions below `from`
abbrev pub pairs_at : (columns : Columns) (from n : ℕ) (y : Reference) → List (Pair Reference)
pairs_at columns from n y = pairs_to (at n y) (placed_from 0 (refs_from columns 0 from))

-- they are the next steps when so many have been made, wherever y stands
abbrev pub SomeNext : (t : Table) (columns : Columns) (from : ℕ) (y : Reference) (made : ℕ) → Type 0
SomeNext t columns from y made = (n : ℕ) × Following (graph t) made (pairs_at columns from n y)

-- as steps they lead from the numbers b to the numbers a, wherever y stands
abbrev pub Taken : (t : Table) (columns : Columns) (from : ℕ) (y : Reference) (b a : Numbers) → Type 0
Taken t columns from y b a = (n : ℕ) → a ≡ run_all (step (graph t)) (pairs_at columns from n y) b
