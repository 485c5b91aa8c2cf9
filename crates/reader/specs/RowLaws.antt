-- Laws of a loop's references as its rows have them: they are the references of the loop, row by row.
use Prim.Native.Nat.{ℕ, zero, suc, ◌+◌, ◌-◌, ◌≤◌, ◌<◌}
use native.Mathlib.Omega.{arith}
use Rattle.std.proofs.Math.Decide.{ℕ_discrete, dec_lt}
use Rattle.std.proofs.Math.Numerals.{add-one}
use Rattle.std.specs.Prelude.{◌≡◌, eqb, ltb, length}
use Rattle.std.proofs.Math.Path.{refl, ap}
use Rattle.std.proofs.Common.{sym, subst, ◌∙◌}
use Rattle.std.proofs.Math.Logic.{⊎_elim}
use Rattle.std.proofs.Math.Bool.{true, cond}
use Rattle.std.proofs.lemmas.Bool.{false≢true}
use mathlib.Core.List.Memᴰ
use mathlib.Core.List.{List, [], ◌∷◌, ◌++◌, append-nil, append_assoc}
use mathlib.Core.List.{Memᴰ as Mem}
use mathlib.Core.List.Memᴰ.{cases_cons}
use mathlib.Core.List.Memᴰ.{not-nil}
use Rattle.std.proofs.Math.ListN.{length-append}
use borrow.Author.Tests.{lt-ltb, le-ltb, eq-eqb, ne_eqb}
use Rattle.model.specs.declared.Reference.{Reference}
use Rattle.model.specs.Table.{Item, count}
use Rattle.model.specs.References.{reads, references, refs}
use Rattle.records.specs.declared.storage.Store.{Store}
use Rattle.reader.specs.Store.{start_at, kind_at, array_at, value_at, item_of, item_at, lead_from, body_from, table_in}
use Rattle.reader.specs.Stored.{Row}
use Rattle.reader.specs.Held.{Held, loop-held, rows-rise, few-rows, row-held, opening-held}
use Rattle.reader.specs.Rows.{ref_in, row_refs, refers_to, refs_from, refs_in, NoneBehind, LastDestination}

-- A ROW THAT REFERS TO AN ARRAY, as a test and as it is said
module _ (c : Store) (r q : ℕ) where
  pub is-refers : kind_at c r < 2 → array_at c r ≡ q → refers_to c r q ≡ true
  is-refers k e = rw (lt-ltb (kind_at c r) 2 k, eq-eqb (array_at c r) q e)

  pub refers-is : refers_to c r q ≡ true → (kind_at c r < 2) × (array_at c r ≡ q)
  refers-is t = go (dec_lt (kind_at c r) 2) (ℕ_discrete (array_at c r) q)
    where
      go : Dec (kind_at c r < 2) → Dec (array_at c r ≡ q) → (kind_at c r < 2) × (array_at c r ≡ q)
      go (yes k) (yes e) = (k, e)
      go (yes k) (no e) = absurd (false≢true (rw (lt-ltb (kind_at c r) 2 k, ne_eqb (array_at c r) q e) at t))
      go (no k) e = absurd (false≢true (rw (le-ltb (kind_at c r) 2 (omega arith)) at t))

module _ (c : Store) (k : ℕ) where
  -- ONE ROW
  pub row-reference : (r : ℕ) → kind_at c r < 2 → row_refs c k r ≡ ref_in c k r ∷ []
  unfolding row_refs
  row-reference r l = rw (lt-ltb (kind_at c r) 2 l)

  pub row-none : (r : ℕ) → 2 ≤ kind_at c r → row_refs c k r ≡ []
  unfolding row_refs
  row-none r l = rw (le-ltb (kind_at c r) 2 l)

  -- a row that is no destination is an item, which refers to what the row says
  item-refs : (r : ℕ) (xs : List Item) → (kind_at c r ≡ 1 → ⊥) → reads k (item_at c r ∷ xs) ≡ row_refs c k r ++ reads k xs
  unfolding item_of row_refs
  item-refs r xs n = go (ℕ_discrete (kind_at c r) 0) (ℕ_discrete (kind_at c r) 2)
    where
      go : Dec (kind_at c r ≡ 0) → Dec (kind_at c r ≡ 2)
          → reads k (item_at c r ∷ xs) ≡ cond (ltb (kind_at c r) 2) (ref_in c k r ∷ []) [] ++ reads k xs
      go (yes e) d = rw e
      go (no e) (yes d) = rw (ne_eqb (kind_at c r) 0 e, eq-eqb (kind_at c r) 2 d, le-ltb (kind_at c r) 2 (omega arith))
      go (no e) (no d) = rw (ne_eqb (kind_at c r) 0 e, ne_eqb (kind_at c r) 2 d, le-ltb (kind_at c r) 2 (omega arith))

  -- ROWS: what they say is what the items before the first destination and the statements refer to
  rows-refer : (n r : ℕ) → reads k (lead_from c r n []) ++ references k (body_from c r n [] []) ≡ refs_from c k r n
  unfolding lead_from body_from refs_from
  rows-refer zero r = refl
  rows-refer (suc n) r = go (ℕ_discrete (kind_at c r) 1) (rows-refer n (suc r))
    where
      go : Dec (kind_at c r ≡ 1) → reads k (lead_from c (suc r) n []) ++ references k (body_from c (suc r) n [] []) ≡ refs_from c k (suc r) n
          → reads k (cond (eqb (kind_at c r) 1) [] (item_at c r ∷ lead_from c (suc r) n []))
          ++ references k (cond (eqb (kind_at c r) 1) (record { array = array_at c r; offset = value_at c r; items = lead_from c (suc r) n [] } ∷ body_from c (suc r) n [] []) (body_from c (suc r) n [] []))
          ≡ row_refs c k r ++ refs_from c k (suc r) n
      go (yes e) ih =
          rw (row-reference r (omega arith), eq-eqb (kind_at c r) 1 e) (ap (λ (l : List Reference). record { number = k; array = array_at c r; offset = value_at c r; stores = true } ∷ l) ih)
      go (no e) ih =
          rw (ne_eqb (kind_at c r) 1 e, item-refs r (lead_from c (suc r) n []) e)
          (append_assoc (row_refs c k r) (reads k (lead_from c (suc r) n [])) (references k (body_from c (suc r) n [] []))
          ∙ ap (λ (l : List Reference). row_refs c k r ++ l) ih)

  -- where they begin with a destination
  pub body-refers : (r n : ℕ) → 0 < n → kind_at c r ≡ 1 → references k (body_from c r n [] []) ≡ refs_from c k r n
  unfolding lead_from
  body-refers r zero h e = absurd (omega arith)
  body-refers r (suc n) h e = rw (eq-eqb (kind_at c r) 1 e) at (rows-refer (suc n) r)

  -- THE ROWS ONE BY ONE
  pub refs-next : (r past : ℕ) → r < past → refs_in c k r past ≡ row_refs c k r ++ refs_in c k (r + 1) past
  unfolding refs_from
  refs-next r past l = let e : past - r ≡ suc (past - suc r) = omega arith in rw (e, add-one r)

  pub refs_end : (r past : ℕ) → past ≤ r → refs_in c k r past ≡ []
  unfolding refs_from
  refs_end r past l = let e : past - r ≡ 0 = omega arith in rw e

  -- those up to a row, and those from it on
  pub refs-split : (from n past : ℕ) → from + n ≤ past → refs_in c k from past ≡ refs_in c k from (from + n) ++ refs_in c k (from + n) past
  refs-split from zero past l =
      let e : from + 0 ≡ from = omega arith in
      rw e (ap (λ (xs : List Reference). xs ++ refs_in c k from past) (sym (refs_end from from (omega arith))))
  refs-split from (suc n) past l =
      let e : from + suc n ≡ from + 1 + n = omega arith in
      rw e
      (refs-next from past (omega arith)
      ∙ ap (λ (xs : List Reference). row_refs c k from ++ xs) (refs-split (from + 1) n past (omega arith))
      ∙ sym (append_assoc (row_refs c k from) (refs_in c k (from + 1) (from + 1 + n)) (refs_in c k (from + 1 + n) past))
      ∙ ap (λ (xs : List Reference). xs ++ refs_in c k (from + 1 + n) past) (sym (refs-next from (from + 1 + n) (omega arith))))

  -- one row more
  pub refs-up : (from r : ℕ) → from ≤ r → refs_in c k from (r + 1) ≡ refs_in c k from r ++ row_refs c k r
  refs-up from r l =
      let e : from + (r - from) ≡ r = omega arith in
      subst (λ (m : ℕ). refs_in c k from (r + 1) ≡ refs_in c k from m ++ refs_in c k m (r + 1)) e (refs-split from (r - from) (r + 1) (omega arith))
      ∙ ap (λ (xs : List Reference). refs_in c k from r ++ xs)
      (refs-next r (r + 1) (omega arith) ∙ ap (λ (xs : List Reference). row_refs c k r ++ xs) (refs_end (r + 1) (r + 1) (omega arith)) ∙ append-nil (row_refs c k r))

  -- there are no more of them than rows
  row-few : (r : ℕ) → length (row_refs c k r) ≤ 1
  row-few r = go (dec_lt (kind_at c r) 2)
    where
      go : Dec (kind_at c r < 2) → length (row_refs c k r) ≤ 1
      go (yes l) = rw (row-reference r l) (omega arith)
      go (no l) = rw (row-none r (omega arith)) (omega arith)

  from-few : (n r : ℕ) → length (refs_from c k r n) ≤ n
  unfolding refs_from
  from-few zero r = omega arith
  from-few (suc n) r = omega (arith, length-append (row_refs c k r) (refs_from c k (suc r) n), row-few r, from-few n (suc r))

  pub refs-few : (from past : ℕ) → length (refs_in c k from past) ≤ past - from
  refs-few from past = from-few (past - from) from

  -- an offset is one
  row-range : (r : ℕ) → Row c r → (x : Reference) → Mem x (row_refs c k r) → x.offset ≤ 510
  row-range r row x m = go (dec_lt (kind_at c r) 2)
    where
      go : Dec (kind_at c r < 2) → x.offset ≤ 510
      go (yes l) = ⊎_elim (λ q. rw q (row.offset l)) (λ i. absurd (not-nil i)) (cases_cons (rw (row-reference r l) at m))
      go (no l) = absurd (not-nil (rw (row-none r (omega arith)) at m))

  from-range : (n r : ℕ) → ((i : ℕ) → i < r + n → Row c i) → (x : Reference) → Mem x (refs_from c k r n) → x.offset ≤ 510
  unfolding refs_from
  from-range zero r rows x m = absurd (not-nil m)
  from-range (suc n) r rows x m =
      ⊎_elim (row-range r (rows r (omega arith)) x) (from-range n (suc r) (λ i l. rows i (omega arith)) x)
      (Memᴰ.append_cases (row_refs c k r) m)

-- A LOOP OF THE TABLE IN A STORE
module _ {c : Store} (h : Held c) (k : ℕ) (l : k < count (table_in c)) where
  pub refs-held : refs (table_in c) k ≡ refs_in c k (start_at c k) (start_at c (suc k))
  refs-held =
      rw (loop-held h k l) (body-refers c k (start_at c k) (start_at c (suc k) - start_at c k) (omega (arith, rows-rise h k l)) (opening-held h k l))

  pub refs-range : (x : Reference) → Mem x (refs (table_in c) k) → x.offset ≤ 510
  refs-range x m =
      from-range c k (start_at c (suc k) - start_at c k) (start_at c k)
      (λ i a. row-held h (suc k) i l (omega (arith, rows-rise h k l))) x (rw refs-held at m)

-- THE LAST DESTINATION, looked for from the last row back
pub last_found : (c : Store) (k r : ℕ) → NoneBehind c k r → kind_at c r ≡ 1 → LastDestination c k r
last_found c k r d e = record { is = e; from = d.from; before = d.before; none = d.none }

pub behind-before : (c : Store) (k r : ℕ) → NoneBehind c k r → start_at c k < r → (kind_at c r ≡ 1 → ⊥) → NoneBehind c k (r - 1)
behind-before c k r d up n = record {
  from = omega arith;
  before = omega (arith, d.before);
  none = λ i a b e. go i a b e (ℕ_discrete i r);
}
  where
    go : (i : ℕ) → r - 1 < i → i < start_at c (suc k) → kind_at c i ≡ 1 → Dec (i ≡ r) → ⊥
    go i a b e (yes z) = n (rw (← z) e)
    go i a b e (no z) = d.none i (omega arith) b e

module _ {c : Store} (h : Held c) (k : ℕ) (l : k < count (table_in c)) where
  pub behind-last : (past : ℕ) → past ≡ start_at c (k + 1) → NoneBehind c k (past - 1)
  behind-last past e =
      let f = ap (start_at c) (add-one k) in
      let up = rows-rise h k l in
      record { from = omega arith; before = omega arith; none = λ i a b. absurd (omega arith) }

  pub behind-few : (r : ℕ) → NoneBehind c k r → r < 576
  behind-few r d = omega (arith, d.before, few-rows h (suc k) l)

  -- the first row is one
  pub first_found : (start r : ℕ) → start ≡ start_at c k → NoneBehind c k r → r ≤ start → LastDestination c k r
  first_found start r s d m =
      let e : r ≡ start_at c k = omega (arith, d.from) in
      last_found c k r d (rw e (opening-held h k l))
