-- Laws of dependences that are not met: the tests are the statements, the first pair is the first, and where there is none the numbers are legal.
use Prim.Native.Nat.{ℕ, zero, suc, ◌+◌, ◌*◌, ◌/◌, ◌%◌, ◌≤◌, ◌<◌}
use native.Mathlib.Omega.{arith}
use Rattle.std.proofs.Math.Decide.{ℕ_discrete, dec_lt}
use Rattle.std.specs.Prelude.{◌≡◌, ◌⊎◌, ◌↔◌, Bool, ◌&&◌, ◌||◌, List, [], ◌∷◌, ◌++◌, ltb, get_or}
use Rattle.std.proofs.Math.Path.{refl, sym, ap}
use Rattle.std.proofs.Common.{◌∙◌, inl, inr, ⊎_elim}
use Rattle.std.proofs.Math.Bool.{true, false, cond, or-true}
use Rattle.std.proofs.lemmas.Bool.{false≢true}
use mathlib.Core.List.Memᴰ.{cases_cons}
use mathlib.Core.List.Memᴰ.{head as mhere}
use mathlib.Core.List.Memᴰ.{not-nil}
use mathlib.Core.List.Memᴰ.{tail as mthere}
use mathlib.Core.List.{Memᴰ as Mem}
use Rattle.std.proofs.Math.Dec.{eqb}
use borrow.Author.Tests.{ltb-true, lt-ltb, eqb-true, eq-eqb}
use Rattle.model.specs.declared.Reference.{Reference}
use Rattle.overlap.specs.Booleans.{both_true, either_true, not-true}
use Rattle.chains.specs.Graph.{Graph, Dependence}
use Rattle.chains.specs.Dependence.{backward, forward}
use Rattle.chains.specs.Legal.{LegalPlan}
use Rattle.chains.specs.Walk.{Below}
use Rattle.chains.specs.Unmet.{some_of, least_from, missed, lacks, unmet, least_unmet, Unmet, FirstUnmet}

-- SOME OF A LIST
module _ {A : Type 0} (f : A → Bool) where
  pub some_of_lem : (xs : List A) → some_of f xs ≡ true → (x : A) × Mem x xs × (f x ≡ true)
  some_of_lem [] e = absurd (false≢true e)
  some_of_lem (x ∷ xs) e = go (either_true (f x) (some_of f xs) e) (some_of_lem xs)
    where
      go : (f x ≡ true) ⊎ (some_of f xs ≡ true) → (some_of f xs ≡ true → (x : A) × Mem x xs × (f x ≡ true)) → (y : A) × Mem y (x ∷ xs) × (f y ≡ true)
      go (inl h) rest = (x, mhere refl, h)
      go (inr h) rest = let (y, m, q) = rest h in (y, mthere m, q)

  pub of_some : (xs : List A) (x : A) → Mem x xs → f x ≡ true → some_of f xs ≡ true
  of_some [] x m e = absurd (not-nil m)
  of_some (y ∷ xs) x m e =
      ⊎_elim (λ q. let h : f y ≡ true = sym (ap f q) ∙ e in rw h) (λ i. let h : some_of f xs ≡ true = of_some xs x i e in rw h (or-true (f y))) (cases_cons m)

  pub some-append : (xs ys : List A) → some_of f (xs ++ ys) ≡ (some_of f xs || some_of f ys)
  some-append [] ys = refl
  some-append (x ∷ xs) ys = go (f x) (some-append xs ys)
    where
      go : (b : Bool) → some_of f (xs ++ ys) ≡ (some_of f xs || some_of f ys) → (b || some_of f (xs ++ ys)) ≡ ((b || some_of f xs) || some_of f ys)
      go true e = refl
      go false e = e

-- THE LEAST
module _ (f : ℕ → Bool) where
  pub least-found : (n k m : ℕ) → k ≤ m → m < k + n → f m ≡ true → ((i : ℕ) → k ≤ i → i < m → f i ≡ false) → least_from n k f ≡ m
  unfolding least_from
  least-found zero k m a b e h = absurd (omega arith)
  least-found (suc n) k m a b e h = go (ℕ_discrete k m) (least-found n (suc k) m)
    where
      go : Dec (k ≡ m) → (suc k ≤ m → m < suc k + n → f m ≡ true → ((i : ℕ) → suc k ≤ i → i < m → f i ≡ false) → least_from n (suc k) f ≡ m)
          → cond (f k) k (least_from n (suc k) f) ≡ m
      go (yes q) rest = rw (ap f q ∙ e) q
      go (no q) rest = rw (h k (omega arith) (omega arith)) (rest (omega arith) (omega arith) e (λ i l u. h i (omega arith) u))

  pub least-none : (n k : ℕ) → ((i : ℕ) → k ≤ i → i < k + n → f i ≡ false) → least_from n k f ≡ k + n
  unfolding least_from
  least-none zero k h = omega arith
  least-none (suc n) k h = rw (h k (omega arith) (omega arith)) (least-none n (suc k) (λ i l u. h i (omega arith) (omega arith)) ∙ omega arith)

  pub least-is : (n k : ℕ) → least_from n k f < k + n → f (least_from n k f) ≡ true
  unfolding least_from
  least-is zero k l = absurd (omega arith)
  least-is (suc n) k l = go (f k) refl l (least-is n (suc k))
    where
      go : (b : Bool) → f k ≡ b → cond b k (least_from n (suc k) f) < k + suc n → (least_from n (suc k) f < suc k + n → f (least_from n (suc k) f) ≡ true)
          → f (cond b k (least_from n (suc k) f)) ≡ true
      go true e l rest = e
      go false e l rest = rest (omega arith)

  pub below-least : (n k i : ℕ) → k ≤ i → i < least_from n k f → f i ≡ false
  unfolding least_from
  below-least zero k i a b = absurd (omega arith)
  below-least (suc n) k i a b = go (f k) refl b (ℕ_discrete k i) (below-least n (suc k) i)
    where
      go : (b : Bool) → f k ≡ b → i < cond b k (least_from n (suc k) f) → Dec (k ≡ i) → (suc k ≤ i → i < least_from n (suc k) f → f i ≡ false) → f i ≡ false
      go true e l d rest = absurd (omega arith)
      go false e l (yes q) rest = ap f (sym q) ∙ e
      go false e l (no q) rest = rest (omega arith) l

  pub least-most : (n k : ℕ) → least_from n k f ≤ k + n
  unfolding least_from
  least-most zero k = omega arith
  least-most (suc n) k = go (f k) (least-most n (suc k))
    where
      go : (b : Bool) → least_from n (suc k) f ≤ suc k + n → cond b k (least_from n (suc k) f) ≤ k + suc n
      go true l = omega arith
      go false l = omega arith

-- THE STATEMENTS
module _ {R : Type 0} (g : Graph R) (miss : R → R → Bool) where
  pub unmet-is : (j k : ℕ) → (unmet g miss j k ≡ true) ↔ Unmet g miss j k
  unfolding unmet
  unmet-is j k = (given, made)
    where
      given : unmet g miss j k ≡ true → Unmet g miss j k
      given e =
          let (x, m, h) = some_of_lem _ g.references e in
          let (y, n, q) = some_of_lem _ g.references h in
          let (a, b) = both_true (eqb (g.number x) j && eqb (g.number y) k) (lacks g miss x y) q in
          let (c, d) = both_true (eqb (g.number x) j) (eqb (g.number y) k) a in
          let (u, v) = both_true (g.depends x y) (miss x y) b in
          record { x = x; y = y; dependence = record { from = m; to = n; joined = u }; from = eqb-true _ _ c; to = eqb-true _ _ d; missed-is = v }

      made : Unmet g miss j k → unmet g miss j k ≡ true
      made u =
          of_some _ g.references u.x u.dependence.from
          (of_some _ g.references u.y u.dependence.to (rw (eq-eqb _ _ u.from, eq-eqb _ _ u.to, u.dependence.joined, u.missed-is)))

  -- a dependence leads to a later loop
  pub unmet-later : (j k : ℕ) → Unmet g miss j k → j < k
  unmet-later j k u = omega (arith, g.earlier u.x u.y u.dependence.joined, u.from, u.to)

  module _ (below : Below 16 g g.references) where
    unmet-near : (j k : ℕ) → Unmet g miss j k → (j < 16) × (k < 16)
    unmet-near j k u = (omega (arith, below u.x u.dependence.from, u.from), omega (arith, below u.y u.dependence.to, u.to))

    -- a pair's number, and the pair of a number
    at_pair : (j k : ℕ) → k < 16 → unmet g miss j k ≡ unmet g miss ((16 * j + k) / 16) ((16 * j + k) % 16)
    at_pair j k l =
        let e : (16 * j + k) / 16 ≡ j = omega arith in
        let d : (16 * j + k) % 16 ≡ k = omega arith in
        rw (e, d)

    -- no pair that is not met stands below the first
    pub unmet-below : (j k : ℕ) → Unmet g miss j k → least_unmet g miss ≤ 16 * j + k
    unfolding least_unmet
    unmet-below j k u = go (dec_lt (16 * j + k) (least_unmet g miss))
      where
        go : Dec (16 * j + k < least_unmet g miss) → least_unmet g miss ≤ 16 * j + k
        go (no l) = omega arith
        go (yes l) =
            absurd (false≢true (sym (below-least (λ n. unmet g miss (n / 16) (n % 16)) 256 0 (16 * j + k) (omega arith) l)
            ∙ sym (at_pair j k (unmet-near j k u).1) ∙ (unmet-is j k).1 u))

    here-is : least_unmet g miss < 256 → unmet g miss (least_unmet g miss / 16) (least_unmet g miss % 16) ≡ true
    unfolding least_unmet
    here-is l = least-is (λ n. unmet g miss (n / 16) (n % 16)) 256 0 l

    -- THE FIRST PAIR is the first
    pub first-unmet : least_unmet g miss < 256 → FirstUnmet g miss (least_unmet g miss / 16) (least_unmet g miss % 16)
    first-unmet l = record {
      here = (unmet-is _ _).0 (here-is l);
      lowest-earlier = λ i m a u. omega (arith, unmet-below i m u, (unmet-near i m u).1);
      lowest-later = λ m a u. omega (arith, unmet-below _ m u);
    }

    -- and the one that is, is given
    pub unmet-first : (j k : ℕ) → FirstUnmet g miss j k → least_unmet g miss ≡ 16 * j + k
    unfolding least_unmet
    unmet-first j k h =
        let (a, b) = unmet-near j k h.here in
        least-found (λ n. unmet g miss (n / 16) (n % 16)) 256 0 (16 * j + k) (omega arith) (omega arith) (sym (at_pair j k b) ∙ (unmet-is j k).1 h.here)
        (λ i l u. not-true _ (λ e. none i b u ((unmet-is _ _).0 e)))
      where
        none : (i : ℕ) → k < 16 → i < 16 * j + k → Unmet g miss (i / 16) (i % 16) → ⊥
        none i b u v = go (ℕ_discrete (i / 16) j)
          where
            go : Dec (i / 16 ≡ j) → ⊥
            go (yes e) = h.lowest-later (i % 16) (omega arith) (rw e at v)
            go (no e) = h.lowest-earlier (i / 16) (i % 16) (omega arith) v

    -- none is given where there is none, and nowhere else
    pub none-unmet : least_unmet g miss ≡ 256 → (j k : ℕ) → Unmet g miss j k → ⊥
    none-unmet e j k u = omega (arith, unmet-below j k u, (unmet-near j k u).0, (unmet-near j k u).1)

    pub unmet-none : ((j k : ℕ) → Unmet g miss j k → ⊥) → least_unmet g miss ≡ 256
    unfolding least_unmet
    unmet-none h = least-none (λ n. unmet g miss (n / 16) (n % 16)) 256 0 (λ i l u. not-true _ (λ e. h _ _ ((unmet-is _ _).0 e)))

  pub least-small : least_unmet g miss ≤ 256
  unfolding least_unmet
  least-small = least-most (λ n. unmet g miss (n / 16) (n % 16)) 256 0

-- LEGAL: no dependence is missed
module _ (g : Graph Reference) (s p : List ℕ) where
  abbrev Short : Reference → Reference → Type 0
  Short x y =
      (get_or s (g.number y) 0 < get_or s (g.number x) 0 + backward x y) ⊎ (get_or p (g.number y) 0 < get_or p (g.number x) 0 + forward x y)

  pub missed-is : (x y : Reference) → (missed g s p x y ≡ true) ↔ Short x y
  missed-is x y = (λ e. ⊎_elim (λ h. inl (ltb-true _ _ h)) (λ h. inr (ltb-true _ _ h)) (either_true _ _ e), made)
    where
      made : Short x y → missed g s p x y ≡ true
      made (inl l) = rw (lt-ltb _ _ l)
      made (inr l) = rw (lt-ltb _ _ l) (or-true (ltb (get_or s (g.number y) 0) (get_or s (g.number x) 0 + backward x y)))

  pub met-legal : ((j k : ℕ) → Unmet g (missed g s p) j k → ⊥) → LegalPlan g s p
  met-legal h = (λ x y d. at (dec_lt _ _) (λ l. none x y d (inl l)), λ x y d. at (dec_lt _ _) (λ l. none x y d (inr l)))
    where
      none : (x y : Reference) → Dependence g x y → Short x y → ⊥
      none x y d l = h (g.number x) (g.number y) (record { x = x; y = y; dependence = d; from = refl; to = refl; missed-is = (missed-is x y).1 l })

      at : {m n : ℕ} → Dec (m < n) → (m < n → ⊥) → n ≤ m
      at (yes l) f = absurd (f l)
      at (no l) f = omega arith

  pub legal-met : LegalPlan g s p → (j k : ℕ) → Unmet g (missed g s p) j k → ⊥
  legal-met (a, b) j k u =
      ⊎_elim (λ l. omega (arith, a u.x u.y u.dependence)) (λ l. omega (arith, b u.x u.y u.dependence)) ((missed-is u.x u.y).0 u.missed-is)
