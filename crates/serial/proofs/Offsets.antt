-- One offset for each array that is stored: where every reference to it has that one, no two references collide.
use Prim.Native.Nat.{ℕ, ◌+◌, ◌-◌, ◌≤◌, ◌<◌}
use native.Mathlib.Omega.{arith}
use native.Mathlib.Decide.{ℕ_discrete}
use mathlib.Core.Path.{◌≡◌, refl, sym, ap, subst, ◌∙◌}
use mathlib.Core.Logic.{◌⊎◌, inl, inr, ⊎_elim}
use mathlib.Core.Bool.{false, not, false≢true}
use mathlib.Core.List.{List}
use mathlib.Core.List.{Memᴰ as Mem}
use lib.Dec.{eqb, ltb}
use lib.ListN.{get_or, set, length-set, replicate, length-replicate, get_or-replicate}
use lib.Seq.{get_or-set_same, get_or-set_other}
use borrow.Author.Tests.{lt-ltb, eq-eqb, ne_eqb, eqb-true}
use Rattle.overlap.specs.Booleans.{not-true}
use Rattle.overlap.specs.Overlap.{some_from}
use Rattle.overlap.proofs.OverlapLaws.{is_some}
use Rattle.model.specs.declared.Reference.{Reference}
use Rattle.records.specs.declared.storage.Store.{Store}
use Rattle.reader.specs.StoreLaws.{array_small}
use Rattle.reader.specs.Store.{kind_at, array_at, value_at}
use Rattle.reader.specs.Rows.{ref_in, refs_in}
use Rattle.std.specs.Prelude.{Option, None, Some, ◌&&◌}
use Rattle.serial.specs.Serial.{collides, pair_hit}
use Rattle.serial.specs.Rows.{StoredAt, with_offset, offset_of, differs}
use Rattle.serial.proofs.Walks.{untouched, same-offset, apart-pairs, rows-one}

module _ (c : Store) where
  -- THE OFFSETS, row by row
  pub offset-put : (row : ℕ) (os : List (Option ℕ)) → kind_at c row ≡ 1 → set os (array_at c row) (Some (value_at c row)) ≡ with_offset c row os
  unfolding with_offset
  offset-put row os e = sym (rw (eq-eqb (kind_at c row) 1 e))

  pub offset-kept : (row : ℕ) (os : List (Option ℕ)) → (kind_at c row ≡ 1 → ⊥) → os ≡ with_offset c row os
  unfolding with_offset
  offset-kept row os n = sym (rw (ne_eqb (kind_at c row) 1 n))

  module _ (from : ℕ) where
    -- array q has none, or that of a row before `row`
    abbrev Kept : ℕ → ℕ → Option ℕ → Type 0
    Kept row q v = (v ≡ None) ⊎ ((i : ℕ) × (from ≤ i) × (i < row) × (kind_at c i ≡ 1) × (array_at c i ≡ q) × (Some (value_at c i) ≡ v))

    pub stored-start : StoredAt c from from (replicate 16 None)
    stored-start = record {
      long = length-replicate {A = Option ℕ} 16 None;
      some = λ i a b. absurd (omega arith);
      only = λ q h. inl (get_or-replicate 16 q None None h);
    }

    module _ (row : ℕ) (os : List (Option ℕ)) (low : from ≤ row) (w : StoredAt c from row os) where
      -- what was there of the rows before stays
      only-before : (q : ℕ) (v : Option ℕ) → Kept row q v → Kept (row + 1) q v
      only-before q v = ⊎_elim inl (λ (i, a, b, k, e, z). inr (i, a, omega arith, k, e, z))

      before : (i : ℕ) → i < row + 1 → (i ≡ row → ⊥) → i < row
      before i b z = omega arith

      stored_other : (kind_at c row ≡ 1 → ⊥) → StoredAt c from (row + 1) os
      stored_other n = record {
        long = w.long;
        some = λ i a b e. w.some i a (before i b (λ z. n (rw z at e))) e;
        only = λ q h. only-before q (get_or os q None) (w.only q h);
      }

      stored-put : kind_at c row ≡ 1 → StoredAt c from (row + 1) (set os (array_at c row) (Some (value_at c row)))
      stored-put e = record {
        long = length-set os (array_at c row) (Some (value_at c row)) ∙ w.long;
        some = λ i a b k z. there i (ℕ_discrete (array_at c i) (array_at c row)) a b k z;
        only = λ q h. at q h (ℕ_discrete q (array_at c row));
      }
        where
          new : List (Option ℕ)
          new = set os (array_at c row) (Some (value_at c row))

          same : (q : ℕ) → q ≡ array_at c row → get_or new q None ≡ Some (value_at c row)
          same q z = rw z (get_or-set_same os (array_at c row) (Some (value_at c row)) None (omega (arith, w.long, array_small c row)))

          other : (q : ℕ) → (q ≡ array_at c row → ⊥) → get_or new q None ≡ get_or os q None
          other q z = get_or-set_other os (array_at c row) q (Some (value_at c row)) None z

          there : (i : ℕ) → Dec (array_at c i ≡ array_at c row) → from ≤ i → i < row + 1 → kind_at c i ≡ 1 → get_or new (array_at c i) None ≡ None → ⊥
          there i (yes q) a b k z = let w = same (array_at c i) q in cc
          there i (no q) a b k z = w.some i a (before i b (λ y. q (ap (array_at c) y))) k (sym (other (array_at c i) q) ∙ z)

          at : (q : ℕ) → q < 16 → Dec (q ≡ array_at c row) → Kept (row + 1) q (get_or new q None)
          at q h (yes z) = inr (row, low, omega arith, e, sym z, sym (same q z))
          at q h (no z) = rw (other q z) (only-before q (get_or os q None) (w.only q h))

      pub stored_next : StoredAt c from (row + 1) (with_offset c row os)
      stored_next = go (ℕ_discrete (kind_at c row) 1)
        where
          go : Dec (kind_at c row ≡ 1) → StoredAt c from (row + 1) (with_offset c row os)
          go (yes e) = subst (StoredAt c from (row + 1)) (offset-put row os e) (stored-put e)
          go (no n) = subst (StoredAt c from (row + 1)) (offset-kept row os n) (stored_other n)

  -- THE TEST OF A ROW
  module _ (os : List (Option ℕ)) (i : ℕ) where
    -- a reference that does not differ has the offset of its array, if that is stored
    agreed : differs c os i ≡ false → kind_at c i < 2 → (offset_of c os i ≡ None → ⊥) → offset_of c os i ≡ Some (value_at c i)
    unfolding differs
    agreed e k n = go (offset_of c os i) refl
      where
        go : (o : Option ℕ) → offset_of c os i ≡ o → offset_of c os i ≡ Some (value_at c i)
        go None f = absurd (n f)
        go (Some o) f =
            let z : (not (eqb o (value_at c i)) && ltb (kind_at c i) 2) ≡ false = rw f at e in
            f ∙ ap Some (same (ℕ_discrete o (value_at c i)) z)
          where
            same : Dec (o ≡ value_at c i) → (not (eqb o (value_at c i)) && ltb (kind_at c i) 2) ≡ false → o ≡ value_at c i
            same (yes y) z = y
            same (no y) z = absurd (false≢true (sym z ∙ rw (ne_eqb o (value_at c i) y, lt-ltb (kind_at c i) 2 k)))

  -- WHERE NONE DIFFERS, no two collide
  module _ (f l from past : ℕ) (os : List (Option ℕ)) (w : StoredAt c from past os) (none : false ≡ some_from (differs c os) from (past - from)) where
    agrees : (i : ℕ) → from ≤ i → i < past → differs c os i ≡ false
    agrees i a b = not-true (differs c os i) (λ e. false≢true (none ∙ is_some (differs c os) (past - from) from i a (omega arith) e))

    -- a destination, and any reference to its array
    one-offset : (i j : ℕ) → from ≤ i → i < past → from ≤ j → j < past → kind_at c i ≡ 1 → kind_at c j < 2 → array_at c i ≡ array_at c j → value_at c i ≡ value_at c j
    one-offset i j a b d e k m q =
        let o : offset_of c os i ≡ offset_of c os j = ap (λ (n : ℕ). get_or os n None) q in
        let n = w.some i a b k in
        let z : Some (value_at c i) ≡ Some (value_at c j) = sym (agreed os i (agrees i a b) (omega arith) n) ∙ o ∙ agreed os j (agrees j d e) m (λ z. n (o ∙ z)) in
        cc

    rows_apart : (i j : ℕ) → from ≤ i → i < past → from ≤ j → j < past → kind_at c i < 2 → kind_at c j < 2
        → collides f l (ref_in c 0 i) (ref_in c 0 j) ≡ false
    rows_apart i j a b d e k m = go (ℕ_discrete (value_at c i) (value_at c j))
      where
        go : Dec (value_at c i ≡ value_at c j) → collides f l (ref_in c 0 i) (ref_in c 0 j) ≡ false
        go (yes v) = sym (same-offset f l (ref_in c 0 i) (ref_in c 0 j) v)
        go (no v) =
            untouched f l (ref_in c 0 i) (ref_in c 0 j)
            (λ t. ⊎_elim
            (λ s. v (one-offset i j a b d e (eqb-true (kind_at c i) 1 s) m t.0))
            (λ s. v (sym (one-offset j i d e a b (eqb-true (kind_at c j) 1 s) k (sym t.0))))
            t.1)

    pub none-collide : pair_hit f l (refs_in c 0 from past) 0 ≡ None
    none-collide = apart-pairs f l (refs_in c 0 from past) 0 pair
      where
        pair : (r q : Reference) → Mem r (refs_in c 0 from past) → Mem q (refs_in c 0 from past) → collides f l r q ≡ false
        pair r q h g =
            let (i, a, b, k, e) = rows-one c (past - from) from r h in
            let (j, d, u, m, v) = rows-one c (past - from) from q g in
            rw (e, v) (rows_apart i j a (omega arith) d (omega arith) k m)
