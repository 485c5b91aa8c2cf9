-- What an accepted table is.
use Rattle.std.specs.Prelude.{ℕ, ◌+◌, ◌-◌, ◌≤◌, ◌<◌, ◌≡◌, List, [], ◌∷◌, length, get_or}
use mathlib.Core.List.{Memᴰ as Mem}
use Rattle.records.specs.History.{operands}
use Rattle.model.specs.declared.Reference.{Reference}
use Rattle.model.specs.Table.{Item, read, constant, operation, Statement, Loop, Table, count, loop}
use Rattle.model.specs.References.{references}
use Rattle.grounds.specs.Statements.{sum}

-- items worked after d waiting numbers: there is never a ninth, an operation is 1 to 5 and finds its operands, and exactly one remains
abbrev pub Works : List Item → ℕ → Type 0
Works [] d = d ≡ 1
Works (read a o ∷ xs) d = (d < 8) × Works xs (d + 1)
Works (constant n ∷ xs) d = (d < 8) × Works xs (d + 1)
Works (operation o ∷ xs) d = (1 ≤ o) × (o ≤ 5) × (operands o ≤ d) × Works xs (d - operands o + 1)

-- how many items all statements of a body have
abbrev pub item_total : List Statement → ℕ
item_total [] = 0
item_total (s ∷ b) = length s.items + item_total b

-- loop k of a table with arrays of the lengths ns
pub record ValidLoop (ns : List ℕ) (k : ℕ) (l : Loop) : Type 0 where
  pub rising : l.first ≤ l.last
  pub bounded : l.last ≤ 131071
  -- it has one to four statements, with at most 32 items in all, and each leaves one number
  pub some : 1 ≤ length l.body
  pub few-statements : length l.body ≤ 4
  pub few : item_total l.body ≤ 32
  pub works : (s : Statement) → Mem s l.body → Works s.items 0
  -- each reference is to an array that there is, at an offset from −255 to 255, and no iteration reaches outside
  pub known : (r : Reference) → Mem r (references k l.body) → r.array < length ns
  pub near : (r : Reference) → Mem r (references k l.body) → r.offset ≤ 510
  pub within : (r : Reference) → Mem r (references k l.body) → (i : ℕ) → l.first ≤ i → i ≤ l.last
      → (255 ≤ i + r.offset) × (i + r.offset - 255 < get_or ns r.array 0)

pub record Valid (t : Table) : Type 0 where
  pub some-arrays : 1 ≤ length t.lengths
  pub few-arrays : length t.lengths ≤ 16
  pub sizes : (a : ℕ) → a < length t.lengths → (1 ≤ get_or t.lengths a 0) × (get_or t.lengths a 0 ≤ 65536)
  pub few-elements : sum t.lengths ≤ 262144
  pub some-loops : 1 ≤ count t
  pub few-loops : count t ≤ 16
  pub each : (k : ℕ) → k < count t → ValidLoop t.lengths k (loop t k)
