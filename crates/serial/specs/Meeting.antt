-- Ground 9 as a statement: two different iterations of one loop, both in its bounds, meet at an element, one of them storing it.
-- The test of Serial.antt decides it; the pair of references that it names meets in two iterations, and no lesser pair does.
use Rattle.std.specs.Prelude.{ℕ, ◌<◌, ◌≢◌, false, length, get_or}
use mathlib.Core.List.{Memᴰ as Mem}
use Rattle.model.specs.declared.Reference.{Reference}
use Rattle.model.specs.Table.{Table, count, iteration, Inside}
use Rattle.model.specs.References.{refs, Meet}

-- two different iterations of loop k meet at an element, one storing
pub record Serial (t : Table) (k : ℕ) : Type 0 where
  pub one : ℕ
  pub other : ℕ
  pub one_inside : Inside t (iteration k one)
  pub other-inside : Inside t (iteration k other)
  pub differ : one ≢ other
  pub left : Reference
  pub right : Reference
  pub left_in : Mem left (refs t k)
  pub right-in : Mem right (refs t k)
  pub meet : Meet one other left right

-- the reference of number n of loop k: all its references, destinations too, numbered from 0 in byte order
abbrev pub numbered : Table → ℕ → ℕ → Reference
numbered t k n = get_or (refs t k) n (record { number = k; array = 0; offset = 0; stores = false })

-- the references of the numbers m and n of loop k, m the lower, meet in two different iterations
pub record Collides (t : Table) (k m n : ℕ) : Type 0 where
  pub lower : m < n
  pub there : n < length (refs t k)
  pub one : ℕ
  pub other : ℕ
  pub one_inside : Inside t (iteration k one)
  pub other-inside : Inside t (iteration k other)
  pub differ : one ≢ other
  pub meet : Meet one other (numbered t k m) (numbered t k n)

-- what 9 carries and names: loop p is the lowest of which two iterations meet; of the pairs of its references that collide, m and n is that whose
-- lower number is least, then whose higher number is least
pub record FirstMeeting (t : Table) (p m n : ℕ) : Type 0 where
  pub there : p < count t
  pub meets : Serial t p
  pub lowest-loop : (k : ℕ) → k < p → Serial t k → ⊥
  pub collides : Collides t p m n
  pub least-lower : (i j : ℕ) → i < m → Collides t p i j → ⊥
  pub least-higher : (j : ℕ) → j < n → Collides t p m j → ⊥
