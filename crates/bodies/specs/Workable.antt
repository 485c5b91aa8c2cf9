-- What the code asks before it works items: they find their operands, and reads stay in the memory.
use Rattle.std.specs.Prelude.{ℕ, ◌+◌, ◌-◌, ◌≤◌, ◌<◌, ◌≡◌, List, [], ◌∷◌, get_or}
use Rattle.records.specs.History.{operands}
use Rattle.model.specs.Table.{Item, read, constant, operation}
use Rattle.model.specs.Bodies.{begins}

-- entry a is where array a begins, in a memory with arrays of the lengths ns
abbrev pub Based : List ℕ → List ℕ → Type 0
Based bs ns = (a : ℕ) → a ≤ 16 → get_or bs a 0 ≡ begins ns a

-- in iteration i, with arrays that begin at bs, in a memory of m elements
module _ (bs : List ℕ) (i m : ℕ) where
  -- array a has an element i + o - 255, and it is in the memory
  abbrev pub Element : ℕ → ℕ → Type 0
  Element a o = (a < 16) × (255 ≤ i + o) × (get_or bs a 0 + (i + o - 255) < m)

  abbrev pub ReadsWithin : List Item → Type 0
  ReadsWithin [] = Unit {0}
  ReadsWithin (read a o ∷ xs) = Element a o × ReadsWithin xs
  ReadsWithin (constant n ∷ xs) = ReadsWithin xs
  ReadsWithin (operation op ∷ xs) = ReadsWithin xs

  -- one item can be worked where d numbers wait
  unfoldable pub Ready : Item → ℕ → Type 0
  Ready (read a o) d = (d < 8) × Element a o
  Ready (constant n) d = d < 8
  Ready (operation op) d = (1 ≤ op) × (op ≤ 5) × (operands op ≤ d) × (d ≤ 8)

-- how many then wait
unfoldable pub next : Item → ℕ → ℕ
next (read a o) d = d + 1
next (constant n) d = d + 1
next (operation op) d = d - operands op + 1
