-- The references of a loop as its rows have them: a destination's row and a read's are one, other rows none.
use Rattle.std.specs.Prelude.{ℕ, zero, suc, ◌-◌, ◌≤◌, ◌<◌, ◌≡◌, Bool, cond, ◌&&◌, List, [], ◌∷◌, ◌++◌, eqb, ltb}
use Rattle.model.specs.declared.Reference.{Reference}
use Rattle.records.specs.declared.storage.Store.{Store}
use Rattle.reader.specs.Store.{start_at, kind_at, array_at, value_at}

-- row r is a reference to array q
abbrev pub refers_to : Store → ℕ → ℕ → Bool
refers_to c r q = ltb (kind_at c r) 2 && eqb (array_at c r) q

module _ (c : Store) (k : ℕ) where
  -- the reference in row r of loop k
  abbrev pub ref_in : ℕ → Reference
  ref_in r = record { number = k; array = array_at c r; offset = value_at c r; stores = eqb (kind_at c r) 1 }

  -- that row's references: one, if it is a read or a destination
  unfoldable pub row_refs : ℕ → List Reference
  row_refs r = cond (ltb (kind_at c r) 2) (ref_in r ∷ []) []

  -- those of the n rows from row r on
  unfoldable pub refs_from : ℕ → ℕ → List Reference
  refs_from r zero = []
  refs_from r (suc n) = row_refs r ++ refs_from (suc r) n

  -- those of the rows from r up to `past`
  abbrev pub refs_in : ℕ → ℕ → List Reference
  refs_in r past = refs_from r (past - r)

  -- row r is of loop k, and no row of the loop past it is a destination's
  pub record NoneBehind (r : ℕ) : Type 0 where
    pub from : start_at c k ≤ r
    pub before : r < start_at c (suc k)
    pub none : (i : ℕ) → r < i → i < start_at c (suc k) → kind_at c i ≡ 1 → ⊥

  -- it is the last that is one
  pub record LastDestination (r : ℕ) : Type 0 where
    pub is : kind_at c r ≡ 1
    pub from : start_at c k ≤ r
    pub before : r < start_at c (suc k)
    pub none : (i : ℕ) → r < i → i < start_at c (suc k) → kind_at c i ≡ 1 → ⊥
