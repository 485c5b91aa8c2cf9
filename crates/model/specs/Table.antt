-- A loop table: arrays by their lengths, and loops in order. Arrays and loops are numbered from 0.
use Rattle.std.specs.Prelude.{ℕ, ◌≤◌, ◌<◌, List, [], get_or, length}
use Rattle.model.specs.declared.Iteration.{Iteration}

-- one item of a body. An offset o, −255 to 255, is kept as o + 255, here and everywhere
pub data Item : Type 0 where
  read : (array offset : ℕ) → Item
  constant : ℕ → Item
  operation : ℕ → Item

-- a postfix body, and the array and offset at which its value is stored
pub record Statement : Type 0 where
  pub array : ℕ
  pub offset : ℕ
  pub items : List Item

-- the iterations first to last, each of which runs the statements in order
pub record Loop : Type 0 where
  pub first : ℕ
  pub last : ℕ
  pub body : List Statement

pub record Table : Type 0 where
  pub lengths : List ℕ
  pub loops : List Loop

-- what stands past the last loop
abbrev pub no_loop : Loop
no_loop = record { first = 0; last = 0; body = [] }

abbrev pub iteration : ℕ → ℕ → Iteration
iteration k i = record { number = k; index = i }

module _ (t : Table) where
  abbrev pub count : ℕ
  count = length t.loops

  abbrev pub loop : ℕ → Loop
  loop k = get_or t.loops k no_loop

  abbrev pub first : ℕ → ℕ
  first k = (loop k).first

  abbrev pub last : ℕ → ℕ
  last k = (loop k).last

  -- iteration i of loop k is one that the table has
  abbrev pub Inside : Iteration → Type 0
  Inside x = (x.number < count) × (first x.number ≤ x.index) × (x.index ≤ last x.number)
