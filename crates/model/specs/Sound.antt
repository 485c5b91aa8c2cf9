-- What holds of a table that none of the grounds 5, 7 and 9 refuses.
use Rattle.std.specs.Prelude.{◌≢◌, ℕ, ◌+◌, ◌-◌, ◌≤◌, ◌<◌, get_or, length}
use mathlib.Core.List.{Memᴰ as Mem}
use Rattle.model.specs.declared.Iteration.{Iteration}
use Rattle.model.specs.declared.Reference.{Reference}
use Rattle.model.specs.Table.{Table, count, iteration, Inside}
use Rattle.model.specs.References.{refs, Meet}

pub record Sound (t : Table) : Type 0 where
  -- 5: there is an array of that number
  pub known : (k : ℕ) (r : Reference) → k < count t → Mem r (refs t k) → r.array < length t.lengths
  -- 7: no iteration reaches outside the array
  pub within : (x : Iteration) (r : Reference) → Inside t x → Mem r (refs t x.number)
      → (255 ≤ x.index + r.offset) × (x.index + r.offset - 255 < get_or t.lengths r.array 0)
  -- 9: no two different iterations of one loop meet at an element, one storing
  pub parallel : (k i j : ℕ) (r q : Reference) → Inside t (iteration k i) → Inside t (iteration k j) → i ≢ j
      → Mem r (refs t k) → Mem q (refs t k) → Meet i j r q → ⊥
