-- What the tests of a record give is the number of the first test that holds, in docs/TABLE.md's order; and that number's ground holds there.
use Rattle.std.specs.Prelude.{ℕ, zero, suc, ◌+◌, ◌≤◌, ◌<◌, ◌≡◌, refl, ◌⊎◌, ◌≢◌, Bool, true, false, not, List, [], ◌∷◌, ◌++◌, length, get_or, ltb, leb, eqb}
use native.Mathlib.Omega.{arith}
use Rattle.std.proofs.Common.{sym, subst, ◌∙◌, ltb-true, ltb-false, leb-true, leb-false, eqb-true, ne_eqb, eq-eqb}
use Rattle.std.proofs.Math.Logic.{inl, inr, ⊎_elim}
use Rattle.std.proofs.lemmas.Bool.{eqb-false, not-true, not-false}
use Rattle.records.specs.declared.Kind.TheVariants as kind
use Rattle.records.specs.declared.Record.{Record}
use Rattle.records.specs.declared.Record.TheVariants.{Unknown, Array, Loop, Read, Constant, Operation, End, Statement}
use Rattle.records.specs.Bytes.{record_at}
use Rattle.records.proofs.Same.{kind_in, kind-of-record}
use Rattle.records.specs.History.{summary, lengths, operands}
use Rattle.records.proofs.ClearLaws.{nothing}
use Rattle.records.specs.Grounds.{◌if◌else◌, early, edge, fields, or_else, ground}
use Rattle.grounds.specs.Places.{after, Records}
use Rattle.grounds.specs.PlaceLaws.{records-within}
use Rattle.grounds.specs.Statements.{loops, latest, waiting, OutOfRange, ManyElements}
use Rattle.grounds.specs.Statements.{Unnumbered, NinthOrTooFew, Outside, OutsideInLoop, OutsideArray, AtWhole, Ground}
use Rattle.grounds.specs.Tests.{Test, test, kind_tests, field_tests, last_tests, tests, First}
use Rattle.grounds.proofs.Counted.{arrays-counted, elements-counted, loops-counted, Body, body-counted, Clears, loop-array, first-last, no_loop_lem}

-- THE FIRST TEST THAT HOLDS

-- that g is its number, as a record, from which the tests can be told
record Finds (ts : List Test) (g : ℕ) : Type 0 where
  first : First ts g

none : Finds [] 0
none = record { first = refl }

-- a test that is asked, giving its number n where it holds, and then others
module _ (n : ℕ) {m : ℕ} {A : Type 0} {ts : List Test} (same_number : n ≡ m) where
  asked : (b : Bool) (r : ℕ) → (b ≡ true → A) → (b ≡ false → A → ⊥) → (b ≡ false → Finds ts r) → Finds (test m A ∷ ts) (n if b else r)
  asked true r holds fails rest = record { first = inl (holds refl, same_number) }
  asked false r holds fails rest = record { first = inr (fails refl, (rest refl).first) }

  asked-lt : (a b r : ℕ) → (a < b → A) → (b ≤ a → A → ⊥) → (b ≤ a → Finds ts r) → Finds (test m A ∷ ts) (n if ltb a b else r)
  asked-lt a b r holds fails rest = asked (ltb a b) r (λ e. holds (ltb-true a b e)) (λ e. fails (ltb-false a b e)) (λ e. rest (ltb-false a b e))

  asked-le : (a b r : ℕ) → (a ≤ b → A) → (b < a → A → ⊥) → (b < a → Finds ts r) → Finds (test m A ∷ ts) (n if leb a b else r)
  asked-le a b r holds fails rest = asked (leb a b) r (λ e. holds (leb-true a b e)) (λ e. fails (leb-false a b e)) (λ e. rest (leb-false a b e))

  asked-eq : (a b r : ℕ) → (a ≡ b → A) → (a ≢ b → A → ⊥) → (a ≢ b → Finds ts r) → Finds (test m A ∷ ts) (n if eqb a b else r)
  asked-eq a b r holds fails rest = asked (eqb a b) r (λ e. holds (eqb-true a b e)) (λ e. fails (eqb-false a b e)) (λ e. rest (eqb-false a b e))

  asked-ne : (a b r : ℕ) → (a ≢ b → A) → (a ≡ b → A → ⊥) → (a ≡ b → Finds ts r) → Finds (test m A ∷ ts) (n if not (eqb a b) else r)
  asked-ne a b r holds fails rest =
      let same : not (eqb a b) ≡ false → a ≡ b = λ e. eqb-true a b (not-false (eqb a b) e) in
      asked (not (eqb a b)) r (λ e. holds (eqb-false a b (not-true (eqb a b) e))) (λ e. fails (same e)) (λ e. rest (same e))

-- a test that never holds of a record of this kind
never : {n g : ℕ} {A : Type 0} {ts : List Test} → (A → ⊥) → Finds ts g → Finds (test n A ∷ ts) g
never a f = record { first = inr (a, f.first) }

-- two tests with one number are one, and a test may be said in other words
module _ {n g : ℕ} {A B : Type 0} {ts : List Test} where
  both : Finds (test n A ∷ test n B ∷ ts) g → Finds (test n (A ⊎ B) ∷ ts) g
  both f = record { first = go f.first }
    where
      go : First (test n A ∷ test n B ∷ ts) g → First (test n (A ⊎ B) ∷ ts) g
      go (inl (h, e)) = inl (inl h, e)
      go (inr (a, inl (h, e))) = inl (inr h, e)
      go (inr (a, inr (b, f))) = inr (⊎_elim a b, f)

  said : (A → B) → (B → A) → Finds (test n A ∷ ts) g → Finds (test n B ∷ ts) g
  said to from f = record { first = go f.first }
    where
      go : First (test n A ∷ ts) g → First (test n B ∷ ts) g
      go (inl (h, e)) = inl (to h, e)
      go (inr (a, f)) = inr (λ h. a (from h), f)

-- tests, and where they find nothing others
abbrev Numbered : List Test → Type 0
Numbered [] = Unit {0}
Numbered (t ∷ ts) = (t.ground ≢ 0) × Numbered ts

then : (ts us : List Test) (g h : ℕ) → Numbered ts → Finds ts g → (g ≡ 0 → Finds us h) → Finds (ts ++ us) (or_else g h)
then ts us g h n f more = record { first = go ts n f.first }
  where
    go : (ts : List Test) → Numbered ts → First ts g → First (ts ++ us) (or_else g h)
    go [] n e = rw (eq-eqb g 0 e) (more e).first
    go (t ∷ ts) n (inl (a, e)) = inl (a, rw (ne_eqb g 0 (λ z. n.0 (sym e ∙ z))) e)
    go (t ∷ ts) n (inr (a, f)) = inr (a, go ts n.1 f)

-- an iteration outside is the first or the last
pub not-outside : (f l o n : ℕ) → 255 ≤ f + o → l + o < n + 255 → Outside f l o n → ⊥
not-outside f l o n low high (i, up, down, out) = ⊎_elim (λ e. omega arith) (λ e. omega arith) out

edge-first : {A : Type 0} (f l o n : ℕ) → f ≤ l → (Outside f l o n → A) → (A → Outside f l o n) → Finds (test 7 A ∷ []) (edge f l o n)
unfolding edge
edge-first f l o n h to from =
    said {A = (f + o < 255) ⊎ (n + 255 ≤ l + o)} (⊎_elim (λ e. to (f, omega arith, h, inl (omega arith))) (λ e. to (l, h, omega arith, inr (omega arith))))
    (λ a. inside (from a))
    (both (asked-lt 7 (omega arith) (f + o) 255 _ (λ e. e) (λ e x. omega arith) λ _.
    asked-le 7 (omega arith) (n + 255) (l + o) 0 (λ e. e) (λ e x. omega arith) λ _. none))
  where
    inside : Outside f l o n → (f + o < 255) ⊎ (n + 255 ≤ l + o)
    inside (i, up, down, inl e) = inl (omega arith)
    inside (i, up, down, inr e) = inr (omega arith)

-- THE TESTS OF A RECORD, after the records rs

module _ (rs : List Record) (clears : Clears rs) where
  some : (summary rs).loops ≢ 0 → 0 < loops rs
  some l = omega (arith, loops-counted rs)

  body : (summary rs).loops ≢ 0 → Body rs
  body l = body-counted rs (some l)

  -- 6 for a body left unfinished
  not-one : (summary rs).waiting ≢ 1 → (0 < loops rs) × (waiting rs ≢ 1)
  not-one h = go (loops rs) refl
    where
      go : (n : ℕ) → loops rs ≡ n → (0 < loops rs) × (waiting rs ≢ 1)
      go zero e = absurd (h (no_loop_lem rs clears e))
      go (suc n) e = let l : 0 < loops rs = omega arith in (l, λ w. h ((body-counted rs l).waiting ∙ w))

  one : (summary rs).waiting ≡ 1 → (0 < loops rs) × (waiting rs ≢ 1) → ⊥
  one e (l, w) = w (sym (body-counted rs l).waiting ∙ e)

  -- 2, 6, 4
  loop-first : Finds (kind_tests (Loop 0 0 0 0) rs) (early kind.Loop (summary rs))
  unfolding early
  loop-first =
      never (λ h. h) (asked-ne 6 (omega arith) (summary rs).waiting 1 _ (λ h. not-one h) (λ h. one h) λ _.
      asked-le 4 (omega arith) 16 (summary rs).loops 0 (λ h. omega (arith, loops-counted rs)) (λ h x. omega (arith, loops-counted rs)) λ _. none)

  item-first : Finds (kind_tests (Constant 0) rs) (early kind.Constant (summary rs))
  unfolding early
  item-first =
      asked-eq 2 (omega arith) (summary rs).loops 0 _ (λ h. omega (arith, loops-counted rs)) (λ h x. omega (arith, loops-counted rs)) λ l.
      never (λ h. h) (asked-le 4 (omega arith) 32 (summary rs).items 0
      (λ h. (some l, omega (arith, (body l).items))) (λ h x. omega (arith, x.1, (body l).items)) λ _. none)

  early-first : (r : Record) → Finds (kind_tests r rs) (early (kind_in r) (summary rs))
  unfolding early
  early-first Unknown = record { first = inl (tt, refl) }
  early-first (Array n) =
      asked-lt 2 (omega arith) 0 (summary rs).loops _ (λ h. omega (arith, loops-counted rs)) (λ h x. omega (arith, loops-counted rs)) λ _.
      never (λ h. h) (asked-le 4 (omega arith) 16 (summary rs).arrays 0
      (λ h. omega (arith, arrays-counted rs)) (λ h x. omega (arith, arrays-counted rs)) λ _. none)
  early-first (Loop f l q o) = loop-first
  early-first (Read q o) = item-first
  early-first (Constant n) = item-first
  early-first (Operation o) = item-first
  early-first End =
      asked-eq 2 (omega arith) (summary rs).loops 0 _ (λ h. inr (omega (arith, loops-counted rs)))
      (λ h. ⊎_elim (λ e. omega (arith, loop-array rs clears (some h))) (λ e. omega (arith, loops-counted rs))) λ _.
      asked-ne 6 (omega arith) (summary rs).waiting 1 0 (λ h. not-one h) (λ h. one h) λ _. never (λ h. h) none
  early-first (Statement q o) =
      asked-eq 2 (omega arith) (summary rs).loops 0 _ (λ h. omega (arith, loops-counted rs)) (λ h x. omega (arith, loops-counted rs)) λ l.
      asked-ne 6 (omega arith) (summary rs).waiting 1 _ (λ h. not-one h) (λ h. one h) λ _.
      asked-le 4 (omega arith) 4 (summary rs).statements 0
      (λ h. (some l, omega (arith, (body l).statements))) (λ h x. omega (arith, x.1, (body l).statements)) λ _. none

  -- 3 and 5, 4, 6, 7
  in-loop : (r : ℕ) → (2 if eqb (summary rs).loops 0 else r) ≡ 0 → (summary rs).loops ≢ 0
  in-loop r z = eqb-false _ _ (nothing 1 _ r z).0

  -- 7 of the latest loop
  edge-in-loop : (q o : ℕ) → (summary rs).loops ≢ 0 → q < (summary rs).arrays
      → Finds (test 7 (OutsideInLoop q o rs) ∷ []) (edge (summary rs).first (summary rs).last o (get_or (lengths rs) q 0))
  edge-in-loop q o l known =
      let t = body l in
      rw (t.first, t.last)
      (edge-first (latest rs).first (latest rs).last o (get_or (lengths rs) q 0) (first-last rs clears)
      (λ out. (some l, omega (arith, arrays-counted rs), out)) (λ x. x.2))

  fields-first : (r : Record) → early (kind_in r) (summary rs) ≡ 0
      → Finds (field_tests r rs ++ last_tests r rs) (fields r (summary rs) (lengths rs))
  unfolding early fields
  fields-first Unknown z = never (λ h. h) (never (λ h. h) (never (λ h. h) none))
  fields-first (Array n) z =
      both (asked-eq 3 (omega arith) n 0 _ (λ h. omega arith) (λ h x. omega arith) λ _.
      asked-lt 3 (omega arith) 65536 n _ (λ h. omega arith) (λ h x. omega arith) λ _.
      asked-lt 4 (omega arith) 262144 ((summary rs).elements + n) 0 (λ h. omega (arith, elements-counted rs)) (λ h x. omega (arith, elements-counted rs)) λ _.
      never (λ h. h) (never (λ h. h) none))
  fields-first (Loop f l q o) z =
      asked-lt 3 (omega arith) 131071 l _ (λ h. omega arith) (λ h x. omega arith) λ _.
      asked-lt 3 (omega arith) l f _ (λ h. omega arith) (λ h x. omega arith) λ up.
      asked-le 5 (omega arith) (summary rs).arrays q _ (λ h. omega (arith, arrays-counted rs)) (λ h x. omega (arith, arrays-counted rs)) λ known.
      asked-lt 3 (omega arith) 510 o _ (λ h. omega arith) (λ h x. omega arith) λ _.
      never (λ h. h) (never (λ h. h) (edge-first f l o (get_or (lengths rs) q 0) up (λ out. (omega (arith, arrays-counted rs), out)) (λ x. x.1)))
  fields-first (Read q o) z =
      let l = in-loop _ z in
      asked-le 5 (omega arith) (summary rs).arrays q _ (λ h. omega (arith, arrays-counted rs)) (λ h x. omega (arith, arrays-counted rs)) λ known.
      asked-lt 3 (omega arith) 510 o _ (λ h. omega arith) (λ h x. omega arith) λ _.
      never (λ h. h) (asked-le 6 (omega arith) 8 (summary rs).waiting _
      (λ h. (some l, omega (arith, (body l).waiting))) (λ h x. omega (arith, x.1, (body l).waiting)) λ _.
      edge-in-loop q o l known)
  fields-first (Constant n) z =
      let l = in-loop _ z in
      never (λ h. h) (asked-le 6 (omega arith) 8 (summary rs).waiting 0
      (λ h. (some l, omega (arith, (body l).waiting))) (λ h x. omega (arith, x.1, (body l).waiting)) λ _.
      never (λ h. h) none)
  fields-first (Operation o) z =
      let l = in-loop _ z in
      both (asked-eq 3 (omega arith) o 0 _ (λ h. omega arith) (λ h x. omega arith) λ _.
      asked-lt 3 (omega arith) 5 o _ (λ h. omega arith) (λ h x. omega arith) λ _.
      never (λ h. h) (asked-lt 6 (omega arith) (summary rs).waiting (operands o) 0
      (λ h. (some l, omega (arith, (body l).waiting))) (λ h x. omega (arith, x.1, (body l).waiting)) λ _. never (λ h. h) none))
  fields-first End z = never (λ h. h) (never (λ h. h) (never (λ h. h) none))
  fields-first (Statement q o) z =
      let l = in-loop _ z in
      asked-le 5 (omega arith) (summary rs).arrays q _ (λ h. omega (arith, arrays-counted rs)) (λ h x. omega (arith, arrays-counted rs)) λ known.
      asked-lt 3 (omega arith) 510 o _ (λ h. omega arith) (λ h x. omega arith) λ _.
      never (λ h. h) (never (λ h. h) (edge-in-loop q o l known))

  ground-finds : (s : List ℕ) (p : ℕ) → Finds (tests s p rs) (ground s p (summary rs) (lengths rs))
  unfolding ground
  ground-finds s p =
      let r = record_at s p in
      rw (← (kind-of-record s p))
      (asked-le 1 (omega arith) (length s) p _ (λ h. h) (λ h x. omega arith) λ there.
      then (kind_tests r rs) (test 1 (length s < after s p) ∷ (field_tests r rs ++ last_tests r rs)) (early (kind_in r) (summary rs)) _
      (λ z. omega arith, (λ z. omega arith, (λ z. omega arith, tt)))
      (early-first r) λ z.
      asked-lt 1 (omega arith) (length s) (after s p) _ (λ h. h) (λ h x. omega arith) λ fits. fields-first r z)

  pub ground-first : (s : List ℕ) (p : ℕ) → First (tests s p rs) (ground s p (summary rs) (lengths rs))
  ground-first s p = (ground-finds s p).first

-- THE GROUND OF THE FIRST TEST HOLDS
module _ (s : List ℕ) (p g : ℕ) where
  -- by the test that it is
  by : {n : ℕ} {A : Type 0} {ts : List Test} → Finds (test n A ∷ ts) g → (A → Ground n s p) → ((A → ⊥) → Finds ts g → Ground g s p) → Ground g s p
  by {n} {A} {ts} f here more = go f.first
    where
      go : First (test n A ∷ ts) g → Ground g s p
      go (inl (h, e)) = subst (λ (m : ℕ). Ground m s p) (sym e) (here h)
      go (inr (a, f)) = more a (record { first = f })

  module _ (rs : List Record) (before : Records s p rs) (some-ground : g ≢ 0) where
    module _ (r : Record) (is : record_at s p ≡ r) (fits : after s p ≤ length s) where
      whole : (G : Record → List Record → Type 0) → G r rs → AtWhole s p G
      whole G h = (rs, before, fits, subst (λ (x : Record). G x rs) (sym is) h)

      last-ground : Finds (last_tests r rs) g → Ground g s p
      last-ground f =
          by f (λ h. inr (whole ManyElements h)) λ _ f.
          by f (λ h. inr (whole NinthOrTooFew h)) λ _ f.
          by f (λ h. whole OutsideArray h) λ _ f. absurd (some-ground f.first)

    later-ground : (r : Record) → record_at s p ≡ r → after s p ≤ length s → Finds (field_tests r rs ++ last_tests r rs) g → Ground g s p
    later-ground Unknown e fits f = last-ground Unknown e fits f
    later-ground (Array n) e fits f = by f (λ h. whole (Array n) e fits OutOfRange h) λ _ f. last-ground (Array n) e fits f
    later-ground (Loop a l q o) e fits f =
        let range = whole (Loop a l q o) e fits OutOfRange in
        by f (λ h. range (inl h)) λ _ f.
        by f (λ h. range (inr (inl h))) λ _ f.
        by f (λ h. whole (Loop a l q o) e fits Unnumbered h) λ _ f.
        by f (λ h. range (inr (inr h))) λ _ f. last-ground (Loop a l q o) e fits f
    later-ground (Read q o) e fits f =
        by f (λ h. whole (Read q o) e fits Unnumbered h) λ _ f.
        by f (λ h. whole (Read q o) e fits OutOfRange h) λ _ f. last-ground (Read q o) e fits f
    later-ground (Constant n) e fits f = last-ground (Constant n) e fits f
    later-ground (Operation o) e fits f = by f (λ h. whole (Operation o) e fits OutOfRange h) λ _ f. last-ground (Operation o) e fits f
    later-ground End e fits f = last-ground End e fits f
    later-ground (Statement q o) e fits f =
        by f (λ h. whole (Statement q o) e fits Unnumbered h) λ _ f.
        by f (λ h. whole (Statement q o) e fits OutOfRange h) λ _ f. last-ground (Statement q o) e fits f

    pub first-ground : First (tests s p rs) g → Ground g s p
    first-ground found =
        by (record { first = found }) (λ h. (rs, before, inl (omega (arith, records-within s p rs before)))) λ there f.
        let here : p < length s = omega arith in
        by f (λ h. (rs, before, here, h)) λ _ f.
        by f (λ h. inl (rs, before, here, h)) λ _ f.
        by f (λ h. inl (rs, before, here, h)) λ _ f.
        by f (λ h. (rs, before, inr (here, omega arith))) λ fits f. later-ground (record_at s p) refl (omega arith) f
