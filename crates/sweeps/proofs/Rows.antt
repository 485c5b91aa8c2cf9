-- The sets of a loop come from the loop's rows in a store.
use Rattle.std.specs.Prelude.{ℕ, suc, ◌+◌, ◌≤◌, ◌<◌, ◌≡◌, refl, Bool, true, false, cond, ◌&&◌, ◌||◌, List, [], ◌∷◌, ◌++◌, eqb, ltb}
use Rattle.std.proofs.Math.Path.{sym}
use Rattle.std.proofs.Common.{ap, ◌∙◌}
use Rattle.std.proofs.Math.Bool.{or_assoc, or-false, and-true, and-false}
use Rattle.std.proofs.Math.Decide.{ℕ_discrete}
use borrow.Author.Tests.{ne_eqb}
use Rattle.marks.specs.Marks.{marked}
use Rattle.marks.specs.MarkLaws.{none-marked}
use Rattle.model.specs.declared.Reference.{Reference}
use Rattle.model.specs.Table.{count}
use Rattle.model.specs.References.{refs}
use Rattle.records.specs.declared.storage.Store.{Store}
use Rattle.reader.specs.Store.{start_at, kind_at, array_at, table_in}
use Rattle.reader.specs.Held.{Held}
use Rattle.reader.specs.Rows.{ref_in, row_refs, refs_in}
use Rattle.reader.specs.RowLaws.{refs-next, refs_end, refs-held}
use Rattle.sweeps.specs.declared.Sets.{Sets}
use Rattle.sweeps.specs.Sweeps.{some}
use Rattle.sweeps.specs.Rows.{SetsOf, Rest, SetsLeft}

-- some reference of two lists, and of a row
some-append : (f : Reference → Bool) (xs ys : List Reference) → some f (xs ++ ys) ≡ (some f xs || some f ys)
unfolding some
some-append f [] ys = refl
some-append f (x ∷ xs) ys =
    ap (λ (b : Bool). f x || b) (some-append f xs ys) ∙ sym (or_assoc (f x) (some f xs) (some f ys))

some-row : (f : Reference → Bool) (c : Store) (k r : ℕ) → some f (row_refs c k r) ≡ (ltb (kind_at c r) 2 && f (ref_in c k r))
unfolding some row_refs
some-row f c k r = go (ltb (kind_at c r) 2)
  where
    go : (b : Bool) → some f (cond b (ref_in c k r ∷ []) []) ≡ (b && f (ref_in c k r))
    go true = or-false (f (ref_in c k r))
    go false = refl

-- a destination's row is a reference
pub stored : (kind : ℕ) (b : Bool) → (eqb kind 1 && b) ≡ (ltb kind 2 && (b && eqb kind 1))
stored kind b = go (ℕ_discrete kind 1)
  where
    go : Dec (kind ≡ 1) → (eqb kind 1 && b) ≡ (ltb kind 2 && (b && eqb kind 1))
    go (yes e) = rw (e, and-true b)
    go (no n) = rw (ne_eqb kind 1 n, and-false b, and-false (ltb kind 2))

-- THE WALK over the rows of loop k, for one of its sets: the arrays of the references that pass the test f
module _ (c : Store) (k : ℕ) (f : ℕ → Reference → Bool) where
  pub rest-start : Held c → k < count (table_in c) → Rest c k f 0 (start_at c k)
  rest-start h there q = rw (none-marked q, refs-held h k there)

  module _ (m row : ℕ) (rest : Rest c k f m row) where
    pub rest-next : row < start_at c (suc k) → (n : ℕ) → ((q : ℕ) → marked n q ≡ (marked m q || (ltb (kind_at c row) 2 && f q (ref_in c k row))))
        → Rest c k f n (row + 1)
    rest-next l n g q =
        rw (g q, or_assoc (marked m q) (ltb (kind_at c row) 2 && f q (ref_in c k row)) (some (f q) (refs_in c k (row + 1) (start_at c (suc k)))))
        (rw (refs-next c k row (start_at c (suc k)) l, some-append (f q) (row_refs c k row) (refs_in c k (row + 1) (start_at c (suc k))), some-row (f q) c k row)
        at (rest q))

    pub rest-done : start_at c (suc k) ≤ row → (q : ℕ) → marked m q ≡ some (f q) (refs (table_in c) k)
    unfolding some
    rest-done l q = sym (or-false (marked m q)) ∙ rw (refs_end c k row (start_at c (suc k)) l) at (rest q)

-- for both
module _ (c : Store) (k : ℕ) where
  pub sets-start : Held c → k < count (table_in c) → SetsLeft c k (start_at c k) (record { touched = 0; written = 0 })
  sets-start h there = record { touches = rest-start c k _ h there; writes = rest-start c k _ h there }

  module _ (row : ℕ) (s : Sets) (l : SetsLeft c k row s) where
    pub sets-next : row < start_at c (suc k) → (r : Sets)
        → ((q : ℕ) → marked r.touched q ≡ (marked s.touched q || (ltb (kind_at c row) 2 && eqb q (array_at c row))))
        → ((q : ℕ) → marked r.written q ≡ (marked s.written q || (ltb (kind_at c row) 2 && (eqb q (array_at c row) && eqb (kind_at c row) 1))))
        → SetsLeft c k (row + 1) r
    sets-next h r f g = record {
      touches = rest-next c k (λ q r. eqb q r.array) s.touched row l.touches h r.touched f;
      writes = rest-next c k (λ q r. eqb q r.array && r.stores) s.written row l.writes h r.written g;
    }

    pub sets-done : start_at c (suc k) ≤ row → SetsOf (table_in c) k s
    sets-done h = record {
      touches = rest-done c k (λ q r. eqb q r.array) s.touched row l.touches h;
      writes = rest-done c k (λ q r. eqb q r.array && r.stores) s.written row l.writes h;
    }
