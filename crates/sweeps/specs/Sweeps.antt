-- Sweeps over the arrays' memory. Before fusion a loop makes one for each array that it touches, and one more, to write back, for each that it
-- writes; after fusion there is one for each array that any loop touches, and one more for each that any loop writes.
use Rattle.std.specs.Prelude.{ℕ, ◌+◌, Bool, false, ◌&&◌, ◌||◌, List, [], ◌∷◌, eqb}
use Rattle.marks.specs.Marks.{Marks, size}
use Rattle.model.specs.declared.Reference.{Reference}
use Rattle.model.specs.Table.{Table, count}
use Rattle.model.specs.References.{refs}
use Rattle.model.specs.PlainRun.{upward}
use Rattle.sweeps.specs.declared.Sweeps.{Sweeps}

-- some of the references passes the test
unfoldable pub some : (Reference → Bool) → List Reference → Bool
some f [] = false
some f (r ∷ rs) = f r || some f rs

-- over the n loops from loop k on: a sum, and a union, added to what came before
abbrev pub sum_over : (ℕ → ℕ) → ℕ → ℕ → ℕ → ℕ
sum_over f = upward (λ k n. n + f k)

abbrev pub union_over : (ℕ → Marks) → ℕ → ℕ → Marks → Marks
union_over s = upward (λ k u q. u q || s k q)

module _ (t : Table) where
  -- the arrays that loop k touches, read or written
  abbrev pub touched : ℕ → Marks
  touched k q = some (λ r. eqb q r.array) (refs t k)

  -- those that it writes
  abbrev pub written : ℕ → Marks
  written k q = some (λ r. eqb q r.array && r.stores) (refs t k)

  -- over all loops
  abbrev pub summed : (ℕ → ℕ) → ℕ
  summed f = sum_over f 0 (count t) 0

  abbrev pub union : (ℕ → Marks) → Marks
  union s = union_over s 0 (count t) (λ q. false)

  -- before: the sizes of both sets summed over all loops
  abbrev pub before : ℕ
  before = summed (λ k. size (touched k) + size (written k))

  -- after: the sizes of the two unions
  abbrev pub after : ℕ
  after = size (union touched) + size (union written)

  unfoldable pub sweeps : Sweeps
  sweeps = record { before = before; after = after }
