-- The sets of a loop as the code has them, and what is left of the loop's rows in a store: what is said of them.
use Rattle.std.specs.Prelude.{ℕ, suc, ◌+◌, ◌≡◌, Bool, ◌&&◌, ◌||◌, eqb}
use Rattle.marks.specs.Marks.{marked, size}
use Rattle.model.specs.declared.Reference.{Reference}
use Rattle.model.specs.Table.{Table}
use Rattle.model.specs.References.{refs}
use Rattle.records.specs.declared.storage.Store.{Store}
use Rattle.reader.specs.Store.{start_at, table_in}
use Rattle.reader.specs.Rows.{refs_in}
use Rattle.sweeps.specs.declared.Sets.{Sets}
use Rattle.sweeps.specs.declared.Totals.{Totals}
use Rattle.sweeps.specs.Sweeps.{some, touched, written}

-- s is the sets of loop k
pub record SetsOf (t : Table) (k : ℕ) (s : Sets) : Type 0 where
  pub touches : (q : ℕ) → marked s.touched q ≡ touched t k q
  pub writes : (q : ℕ) → marked s.written q ≡ written t k q

-- the totals s, then r with loop k
pub record Added (s r : Totals) (t : Table) (k : ℕ) : Type 0 where
  pub sums : r.before ≡ s.before + (size (touched t k) + size (written t k))
  pub touches : (q : ℕ) → marked r.sets.touched q ≡ (marked s.sets.touched q || touched t k q)
  pub writes : (q : ℕ) → marked r.sets.written q ≡ (marked s.sets.written q || written t k q)

-- THE WALK over the rows of loop k, for one of its sets: the arrays of the references that pass the test f
module _ (c : Store) (k : ℕ) (f : ℕ → Reference → Bool) where
  -- what is marked, and the rows from here on, give the set
  abbrev pub Rest : ℕ → ℕ → Type 0
  Rest m row = (q : ℕ) → (marked m q || some (f q) (refs_in c k row (start_at c (suc k)))) ≡ some (f q) (refs (table_in c) k)

-- for both
module _ (c : Store) (k : ℕ) where
  pub record SetsLeft (row : ℕ) (s : Sets) : Type 0 where
    pub touches : Rest c k (λ q r. eqb q r.array) s.touched row
    pub writes : Rest c k (λ q r. eqb q r.array && r.stores) s.written row
