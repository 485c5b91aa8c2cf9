-- Which arrays are in the sets: those of some reference, and those that some reference stores to; in a union, those of some loop's set. Assumes nothing.
use Rattle.std.specs.Prelude.{ℕ, zero, suc, ◌+◌, ◌≤◌, ◌<◌, ◌≡◌, ◌⊎◌, ◌↔◌, Bool, true, false, ◌&&◌, ◌||◌, eqb}
use Rattle.std.proofs.Math.Decide.{ℕ_discrete}
use Rattle.std.proofs.Common.{arith, sym, inl, inr, eqb-true, eq-eqb}
use Rattle.std.proofs.Math.Path.{refl}
use Rattle.std.proofs.Math.Logic.{⊎_elim}
use Rattle.std.proofs.lemmas.Bool.{false≢true}
use Rattle.std.proofs.Math.Bool.{or-true, and-eq-true_iff}
use mathlib.Core.List.{List, [], ◌∷◌}
use mathlib.Core.List.Memᴰ.{cases_cons}
use mathlib.Core.List.Memᴰ.{head as mhere}
use mathlib.Core.List.Memᴰ.{not-nil}
use mathlib.Core.List.Memᴰ.{tail as mthere}
use mathlib.Core.List.{Memᴰ as Mem}
use Rattle.marks.specs.Marks.{Marks}
use Rattle.model.specs.declared.Reference.{Reference}
use Rattle.model.specs.Table.{Table, count}
use Rattle.model.specs.References.{refs}
use Rattle.sweeps.specs.Sweeps.{some, touched, written, union_over, union}

either : (a b : Bool) → (a || b) ≡ true → (a ≡ true) ⊎ (b ≡ true)
either true b e = inl refl
either false b e = inr e

-- SOME REFERENCE
module _ (f : Reference → Bool) where
  abbrev Passing : List Reference → Type 0
  Passing rs = (r : Reference) × Mem r rs × (f r ≡ true)

  found : (rs : List Reference) → some f rs ≡ true → Passing rs
  unfolding some
  found [] e = absurd (false≢true e)
  found (r ∷ rs) e = ⊎_elim (λ h. (r, mhere refl, h)) (λ h. further (found rs h)) (either (f r) (some f rs) e)
    where
      further : Passing rs → Passing (r ∷ rs)
      further (z, m, h) = (z, mthere m, h)

  passes : (rs : List Reference) (r : Reference) → Mem r rs → f r ≡ true → some f rs ≡ true
  unfolding some
  passes [] r m h = absurd (not-nil m)
  passes (z ∷ rs) r m h =
      ⊎_elim (λ e. rw (← e, h)) (λ n. rw (passes rs r n h) (or-true (f z))) (cases_cons m)

-- THE SETS OF A LOOP
module _ (t : Table) (k q : ℕ) where
  pub touched-member : (touched t k q ≡ true) ↔ ((r : Reference) × Mem r (refs t k) × (r.array ≡ q))
  touched-member = (
    λ e. let (r, m, h) = found (λ r. eqb q r.array) (refs t k) e in (r, m, sym (eqb-true q r.array h)),
    λ (r, m, e). passes (λ r. eqb q r.array) (refs t k) r m (eq-eqb q r.array (sym e)),
  )

  pub written-member : (written t k q ≡ true) ↔ ((r : Reference) × Mem r (refs t k) × (r.array ≡ q) × (r.stores ≡ true))
  written-member = (
    λ e. let (r, m, h) = found (λ r. eqb q r.array && r.stores) (refs t k) e in
        let (x, s) = (and-eq-true_iff (eqb q r.array) r.stores).0 h in
        (r, m, sym (eqb-true q r.array x), s),
    λ (r, m, e, s). passes (λ r. eqb q r.array && r.stores) (refs t k) r m (rw (eq-eqb q r.array (sym e)) s),
  )

-- A UNION
module _ (s : ℕ → Marks) (q : ℕ) where
  -- in one of the n sets from the i-th on
  abbrev InSome : ℕ → ℕ → Type 0
  InSome i n = (k : ℕ) × (i ≤ k) × (k < i + n) × (s k q ≡ true)

  in_some : (i n : ℕ) (u : Marks) → union_over s i n u q ≡ true → (u q ≡ true) ⊎ InSome i n
  in_some i zero u e = inl e
  in_some i (suc n) u e = ⊎_elim (λ h. here (either (u q) (s i q) h)) (λ h. inr (later h)) (in_some (suc i) n (λ p. u p || s i p) e)
    where
      here : (u q ≡ true) ⊎ (s i q ≡ true) → (u q ≡ true) ⊎ InSome i (suc n)
      here (inl h) = inl h
      here (inr h) = inr (i, omega arith, omega arith, h)

      later : InSome (suc i) n → InSome i (suc n)
      later (k, l, m, h) = (k, omega arith, omega arith, h)

  kept_in : (i n : ℕ) (u : Marks) → u q ≡ true → union_over s i n u q ≡ true
  kept_in i zero u e = e
  kept_in i (suc n) u e = kept_in (suc i) n (λ p. u p || s i p) (rw e)

  put_in : (i n : ℕ) (u : Marks) (k : ℕ) → i ≤ k → k < i + n → s k q ≡ true → union_over s i n u q ≡ true
  put_in i zero u k l m e = absurd (omega arith)
  put_in i (suc n) u k l m e = go (ℕ_discrete k i) (put_in (suc i) n (λ p. u p || s i p) k)
    where
      go : Dec (k ≡ i) → (suc i ≤ k → k < suc i + n → s k q ≡ true → union_over s i (suc n) u q ≡ true) → union_over s i (suc n) u q ≡ true
      go (yes z) ih = kept_in (suc i) n (λ p. u p || s i p) (rw (← z, e) (or-true (u q)))
      go (no z) ih = ih (omega arith) (omega arith) e

pub union-member : (t : Table) (s : ℕ → Marks) (q : ℕ) → (union t s q ≡ true) ↔ ((k : ℕ) × (k < count t) × (s k q ≡ true))
union-member t s q = (
  λ e. ⊎_elim (λ h. absurd (false≢true h)) (λ (k, l, m, h). (k, omega arith, h)) (in_some s q 0 (count t) (λ p. false) e),
  λ (k, l, h). put_in s q 0 (count t) (λ p. false) k (omega arith) (omega arith) h,
)
