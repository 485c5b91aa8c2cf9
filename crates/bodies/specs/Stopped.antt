-- What working a row gives, and the row at which the items of a statement end.
use Rattle.std.specs.Prelude.{ℕ, ◌-◌, ◌≤◌, ◌<◌, ◌≡◌, Option, None, Some, List, length, Float}
use Rattle.model.specs.Bodies.{worked}
use Rattle.records.specs.declared.storage.Store.{Store}
use Rattle.reader.specs.Store.{kind_at, item_at, statements_from}
use Rattle.bodies.specs.Stack.{tops}
use Rattle.bodies.specs.Workable.{Based, next}

-- row r, in iteration i on the memory m: first the n lowest of the values vs wait; an item is worked, and then the values are `after`; a
-- destination is none, and nothing is done
module _ (bs : List ℕ) (i : ℕ) (m : List Float) (c : Store) (r : ℕ) (vs : List Float) (n : ℕ) (after : List Float) where
  abbrev pub Stepped : Option ℕ → Type 0
  Stepped None = (kind_at c r ≡ 1) × (after ≡ vs)
  Stepped (Some e) =
      (kind_at c r ≡ 1 → ⊥) × (length after ≡ 8) × (e ≡ next (item_at c r) n)
      × ((ns : List ℕ) → Based bs ns → tops after e ≡ worked ns i m (item_at c r) (tops vs n))

-- rows that begin with a destination's, if there are any
abbrev pub Opens : Store → ℕ → ℕ → Type 0
Opens c from past = from < past → kind_at c from ≡ 1

-- from row `from` on, up to `past`: no row before `row` is a destination's, and `row` is one or is `past`
pub record Stopped (c : Store) (from past row : ℕ) : Type 0 where
  pub low : from ≤ row
  pub high : row ≤ past
  pub opens : Opens c row past
  -- all statements that begin in these rows begin in those from `row` on
  pub same : statements_from c from (past - from) ≡ statements_from c row (past - row)
