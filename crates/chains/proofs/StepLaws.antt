-- Laws of the walk over pairs: which pairs are steps, that none is one twice, what a step changes, and what all of them leave.
use Prim.Native.Nat.{ℕ, suc, ◌+◌, max, ◌≤◌, ◌<◌}
use Rattle.std.specs.Prelude.{◌≡◌, ◌⊎◌, ◌≢◌, ◌↔◌, true, false, get_or, drop, replicate}
use Rattle.std.proofs.Math.Path.{refl, sym, ap}
use Rattle.std.proofs.Common.{◌∙◌, inl, inr, arith, length-append, get_or-set_same}
use Rattle.std.proofs.Math.Logic.{⊎_elim}
use mathlib.Core.List.Memᴰ
use mathlib.Core.List.{List, [], ◌∷◌, ◌++◌, append-nil, append_assoc}
use mathlib.Core.List.Memᴰ.{cases_cons}
use mathlib.Core.List.Memᴰ.{head as mhere}
use mathlib.Core.List.Memᴰ.{not-nil}
use mathlib.Core.List.Memᴰ.{tail as mthere}
use mathlib.Core.List.{Memᴰ as Mem}
use Rattle.std.proofs.Math.Decide.{dec_lt}
use Rattle.std.proofs.Math.Nat.{max-zero, zero-max}
use Rattle.std.proofs.Math.ListN.{length, set, length-set}
use Rattle.std.proofs.Math.Seq.{get_or-set_other, set-set}
use Rattle.std.proofs.lemmas.List.{set-get_or}
use Rattle.order.specs.Sequences.{Before, bhere, bthere, NoDup, run_all}
use Rattle.order.specs.Reorder.{run_all-append}
use Rattle.order.specs.Lists.{if, if_yes, if_no, only, only-mem, mem-only, only-passes, only-append, before-only, before-append, before-left, before-right}
use Rattle.model.specs.declared.Reference.{Reference}
use Rattle.chains.specs.Graph.{Graph}
use Rattle.chains.specs.Dependence.{backward, forward}
use Rattle.chains.specs.Maximum.{maximum}
use Rattle.chains.specs.MaximumLaws.{max-right, maximum-same}
use Rattle.chains.specs.Walk.{required, raised, walk, numbers, shifts, peels, Ordered, Below}
use Rattle.chains.proofs.WalkLaws.{required-met, required-none, required-late, required-own, length-raised}
use Rattle.chains.specs.Steps.{Placed, Pair, placed_from, pairs_to, at, pair_of, pairs, placed, Rises, rises, steps_to, steps, raised_by, row_step, Following, Numbers, step, no_numbers, walked}

-- WHICH PAIRS ARE STEPS
module _ {R : Type 0} where
  -- positions rise
  placed-from : (i : ℕ) (xs : List R) (x : Placed R) → Mem x (placed_from i xs) → i ≤ x.position
  placed-from i [] x m = absurd (not-nil m)
  placed-from i (z ∷ xs) x m = ⊎_elim (λ e. rw e (omega arith)) (λ n. omega (arith, placed-from (suc i) xs x n)) (cases_cons m)

  pub placed-rise : (i : ℕ) (xs : List R) (x y : Placed R) → Before x y (placed_from i xs) → x.position < y.position
  placed-rise i [] x y x3 = elim x3 [ ]
  placed-rise i (z ∷ xs) x y (bhere e m) = rw e (placed-from (suc i) xs y m)
  placed-rise i (z ∷ xs) x y (bthere b) = placed-rise (suc i) xs x y b

  pub placed-append : (i : ℕ) (xs ys : List R) → placed_from i (xs ++ ys) ≡ placed_from i xs ++ placed_from (i + length xs) ys
  placed-append i [] ys = let e : i + 0 ≡ i = omega arith in rw e
  placed-append i (x ∷ xs) ys =
      let e : i + suc (length xs) ≡ suc i + length xs = omega arith in
      ap (λ (l : List (Placed R)). at i x ∷ l) (rw e (placed-append (suc i) xs ys))

  -- what stands at a position: the reference that has so many before it
  placed-has : (i : ℕ) (rs : List R) (p : Placed R) → Mem p (placed_from i rs)
      → (xs : List R) × (ys : List R) × (rs ≡ xs ++ (p.reference ∷ ys)) × (i + length xs ≡ p.position)
  placed-has i [] p m = absurd (not-nil m)
  placed-has i (x ∷ rs) p m =
      ⊎_elim (λ e. ([], rs, ap (λ (q : Placed R). q.reference ∷ rs) (sym e), omega (arith, ap (λ (q : Placed R). q.position) e)))
      (λ n. let (xs, ys, e, l) = placed-has (suc i) rs p n in (x ∷ xs, ys, ap (λ (l : List R). x ∷ l) e, omega arith)) (cases_cons m)

  pair_same : {x y z w : Placed R} → x ≡ z → y ≡ w → pair_of x y ≡ pair_of z w
  pair_same e f = rw (e, f)

  pub pairs_to-mem : (y : Placed R) (xs : List (Placed R)) (p : Pair R) → Mem p (pairs_to y xs) ↔ (Mem p.earlier xs × (p.later ≡ y))
  pairs_to-mem y xs p = (given xs, conversely xs)
    where
      given : (xs : List (Placed R)) → Mem p (pairs_to y xs) → Mem p.earlier xs × (p.later ≡ y)
      given [] m = absurd (not-nil m)
      given (x ∷ xs) m =
          ⊎_elim (λ e. (mhere (ap (λ (q : Pair R). q.earlier) e), ap (λ (q : Pair R). q.later) e))
          (λ n. let (a, b) = given xs n in (mthere a, b)) (cases_cons m)

      conversely : (xs : List (Placed R)) → Mem p.earlier xs × (p.later ≡ y) → Mem p (pairs_to y xs)
      conversely [] (m, q) = absurd (not-nil m)
      conversely (x ∷ xs) (m, q) = ⊎_elim (λ e. mhere (pair_same e q)) (λ n. mthere (conversely xs (n, q))) (cases_cons m)

  pub pairs-mem : (xs ys : List (Placed R)) (p : Pair R) → Mem p (pairs xs ys) ↔ (Mem p.earlier xs × Mem p.later ys)
  pairs-mem xs ys p = (given ys, conversely ys)
    where
      given : (ys : List (Placed R)) → Mem p (pairs xs ys) → Mem p.earlier xs × Mem p.later ys
      given [] m = absurd (not-nil m)
      given (y ∷ ys) m =
          ⊎_elim (λ n. let (a, b) = (pairs_to-mem y xs p).0 n in (a, mhere b)) (λ n. let (a, b) = given ys n in (a, mthere b))
          (Memᴰ.append_cases (pairs_to y xs) m)

      conversely : (ys : List (Placed R)) → Mem p.earlier xs × Mem p.later ys → Mem p (pairs xs ys)
      conversely [] (m, n) = absurd (not-nil n)
      conversely (y ∷ ys) (m, n) =
          ⊎_elim (λ e. Memᴰ.append_left (pairs xs ys) ((pairs_to-mem y xs p).1 (m, e))) (λ k. Memᴰ.append_right (pairs_to y xs) (conversely ys (m, k))) (cases_cons n)

  -- which pair stands before which
  before-pairs_to : (y : Placed R) (xs : List (Placed R)) {p q : Pair R} → Before p q (pairs_to y xs) → Before p.earlier q.earlier xs
  before-pairs_to y [] {p = p} {q = q} x' = elim x' [ ]
  before-pairs_to y (x ∷ xs) {p} {q} (bhere e m) = bhere (ap (λ (r : Pair R). r.earlier) e) ((pairs_to-mem y xs q).0 m).0
  before-pairs_to y (x ∷ xs) (bthere b) = bthere (before-pairs_to y xs b)

  before-pairs : (xs ys : List (Placed R)) (p q : Pair R) → Before p q (pairs xs ys)
      → (Before p.earlier q.earlier xs × (p.later ≡ q.later)) ⊎ Before p.later q.later ys
  before-pairs xs [] p q b = elim b [ ]
  before-pairs xs (y ∷ ys) p q b =
      ⊎_elim
      (λ h. inl (before-pairs_to y xs h, ((pairs_to-mem y xs p).0 (before-left h)).1 ∙ sym ((pairs_to-mem y xs q).0 (before-right h)).1))
      (λ o.
      ⊎_elim
      (λ h. ⊎_elim inl (λ k. inr (bthere k)) (before-pairs xs ys p q h))
      (λ (m, n). inr (bhere ((pairs_to-mem y xs p).0 m).1 ((pairs-mem xs ys q).0 n).1))
      o)
      (before-append (pairs_to y xs) b)

  placed-reference : (i : ℕ) (xs : List R) (x : Placed R) → Mem x (placed_from i xs) → Mem x.reference xs
  placed-reference i [] x m = absurd (not-nil m)
  placed-reference i (z ∷ xs) x m =
      ⊎_elim (λ e. mhere (ap (λ (q : Placed R). q.reference) e)) (λ n. mthere (placed-reference (suc i) xs x n)) (cases_cons m)

  before-reference : (i : ℕ) (xs : List R) (x y : Placed R) → Before x y (placed_from i xs) → Before x.reference y.reference xs
  before-reference i [] x y x3 = elim x3 [ ]
  before-reference i (z ∷ xs) x y (bhere e m) = bhere (ap (λ (q : Placed R). q.reference) e) (placed-reference (suc i) xs y m)
  before-reference i (z ∷ xs) x y (bthere b) = bthere (before-reference (suc i) xs x y b)

module _ {R : Type 0} (g : Graph R) where
  -- each reference has its position, that of how many come before it, and no other
  pub placed-is : (p : Placed R) → Mem p (placed g) ↔ ((xs : List R) × (ys : List R) × (g.references ≡ xs ++ (p.reference ∷ ys)) × (length xs ≡ p.position))
  placed-is p = (
    λ m. let (xs, ys, e, l) = placed-has 0 g.references p m in (xs, ys, e, omega arith),
    λ (xs, ys, e, l). rw (e, placed-append 0 xs (p.reference ∷ ys)) (Memᴰ.append_right (placed_from 0 xs) (mhere (at_same (omega arith)))),
  )
    where
      at_same : {i : ℕ} → p.position ≡ i → p ≡ at i p.reference
      at_same e = rw (← e)

  -- a pair is a step exactly if both are references of the graph, the first in the loop that comes before the second's
  pub step-mem : (p : Pair R) → Mem p (steps g) ↔ (Mem p.earlier (placed g) × Mem p.later (placed g) × (g.number p.earlier.reference < g.number p.later.reference))
  unfolding steps
  step-mem p = (
    λ m. let (a, b) = (pairs-mem (placed g) (placed g) p).0 (mem-only (rises g) (pairs (placed g) (placed g)) m) in
        (a, b, only-passes (rises g) (pairs (placed g) (placed g)) m),
    λ (a, b, l). only-mem (rises g) (pairs (placed g) (placed g)) l ((pairs-mem (placed g) (placed g) p).1 (a, b)),
  )

  -- of two references one way round is a step, and one alone, exactly if they belong to two different loops
  pub step-exactly : (x y : Placed R) → Mem x (placed g) → Mem y (placed g)
      → (g.number x.reference ≢ g.number y.reference) ↔ (Mem (pair_of x y) (steps g) ⊎ Mem (pair_of y x) (steps g))
  step-exactly x y m n = (given, conversely)
    where
      given : g.number x.reference ≢ g.number y.reference → Mem (pair_of x y) (steps g) ⊎ Mem (pair_of y x) (steps g)
      given d = go (dec_lt (g.number x.reference) (g.number y.reference))
        where
          go : Dec (g.number x.reference < g.number y.reference) → Mem (pair_of x y) (steps g) ⊎ Mem (pair_of y x) (steps g)
          go (yes l) = inl ((step-mem _).1 (m, n, l))
          go (no l) = inr ((step-mem _).1 (n, m, omega arith))

      conversely : Mem (pair_of x y) (steps g) ⊎ Mem (pair_of y x) (steps g) → g.number x.reference ≢ g.number y.reference
      conversely o e = ⊎_elim (λ h. let l = ((step-mem _).0 h).2 in omega arith) (λ h. let l = ((step-mem _).0 h).2 in omega arith) o

  pub step-one-way : (x y : Placed R) → Mem (pair_of x y) (steps g) → Mem (pair_of y x) (steps g) → ⊥
  step-one-way x y a b = omega (arith, ((step-mem _).0 a).2, ((step-mem _).0 b).2)

  -- no pair is a step twice
  pub step-once : NoDup (steps g)
  unfolding steps
  step-once p b =
      ⊎_elim (λ (h, e). let l = placed-rise 0 g.references _ _ h in omega arith) (λ h. let l = placed-rise 0 g.references _ _ h in omega arith)
      (before-pairs (placed g) (placed g) p p (before-only (rises g) (pairs (placed g) (placed g)) b))

  -- no later step changes the number of a step's earlier loop, which is what it adds to
  pub step-final : Ordered g g.references → (p q : Pair R) → Before p q (steps g) → g.number p.earlier.reference < g.number q.later.reference
  unfolding steps
  step-final o p q b =
      let l : Rises g p = only-passes (rises g) (pairs (placed g) (placed g)) (before-left b) in
      ⊎_elim (λ (h, e). rw (← e) l) (λ h. omega (arith, l, o _ _ (before-reference 0 g.references _ _ h)))
      (before-pairs (placed g) (placed g) p q (before-only (rises g) (pairs (placed g) (placed g)) b))

-- WHAT A STEP CHANGES
module _ {R : Type 0} (g : Graph R) (amount : R → R → ℕ) where
  pub raised_by-length : (x y : R) (s : List ℕ) → length (raised_by g amount x y s) ≡ length s
  unfolding raised_by
  raised_by-length x y s = simp length-set

  pub raised_by-other : (x y : R) (s : List ℕ) (k : ℕ) → k ≢ g.number y → get_or (raised_by g amount x y s) k 0 ≡ get_or s k 0
  unfolding raised_by
  raised_by-other x y s k n = get_or-set_other s _ k _ 0 n

  -- a pair that makes a dependence, and one that makes none
  pub raised_by-met : (x y : R) (s : List ℕ) → g.depends x y ≡ true
      → raised_by g amount x y s ≡ set s (g.number y) (max (get_or s (g.number y) 0) (get_or s (g.number x) 0 + amount x y))
  unfolding raised_by
  raised_by-met x y s e = rw (required-met amount g s y x e)

  pub raised_by-none : (x y : R) (s : List ℕ) → g.depends x y ≡ false → raised_by g amount x y s ≡ s
  unfolding raised_by
  raised_by-none x y s e = rw (required-none amount g s y x e, max-zero (get_or s (g.number y) 0)) (set-get_or s (g.number y) 0)

-- of the shifts and peels at most two, those of the later loop; every other is as before
pub step-changes : (g : Graph Reference) (p : Pair Reference) (n : Numbers) (k : ℕ) → k ≢ g.number p.later.reference
    → (get_or (step g p n).shifts k 0 ≡ get_or n.shifts k 0) × (get_or (step g p n).peels k 0 ≡ get_or n.peels k 0)
step-changes g p n k d = (raised_by-other g backward _ _ n.shifts k d, raised_by-other g forward _ _ n.peels k d)

pub step-lengths : (g : Graph Reference) (p : Pair Reference) (n : Numbers)
    → (length (step g p n).shifts ≡ length n.shifts) × (length (step g p n).peels ≡ length n.peels)
step-lengths g p n = (raised_by-length g backward _ _ n.shifts, raised_by-length g forward _ _ n.peels)

-- WHAT THE STEPS LEAVE
module _ {R : Type 0} where
  pairs_to-append : (y : Placed R) (xs zs : List (Placed R)) → pairs_to y (xs ++ zs) ≡ pairs_to y xs ++ pairs_to y zs
  pairs_to-append y [] zs = refl
  pairs_to-append y (x ∷ xs) zs = ap (λ (l : List (Pair R)). pair_of x y ∷ l) (pairs_to-append y xs zs)

  pairs-append : (xs ys zs : List (Placed R)) → pairs xs (ys ++ zs) ≡ pairs xs ys ++ pairs xs zs
  pairs-append xs [] zs = refl
  pairs-append xs (y ∷ ys) zs = ap (λ (l : List (Pair R)). pairs_to y xs ++ l) (pairs-append xs ys zs) ∙ sym (append_assoc (pairs_to y xs) (pairs xs ys) (pairs xs zs))

module _ {R : Type 0} (g : Graph R) where
  pub steps_to-append : (ys zs : List (Placed R)) → steps_to g (ys ++ zs) ≡ steps_to g ys ++ steps_to g zs
  steps_to-append ys zs = ap (only (rises g)) (pairs-append (placed g) ys zs) ∙ only-append (rises g) (pairs (placed g) ys) (pairs (placed g) zs)

  -- with references of earlier loops, and with others
  only-earlier : (y : Placed R) (i : ℕ) (xs : List R) → ((x : R) → Mem x xs → g.number x < g.number y.reference)
      → only (rises g) (pairs_to y (placed_from i xs)) ≡ pairs_to y (placed_from i xs)
  only-earlier y i [] h = refl
  only-earlier y i (x ∷ xs) h =
      if_yes (rises g (pair_of (at i x) y)) _ _ (h x (mhere refl)) ∙ ap (λ (l : List (Pair R)). pair_of (at i x) y ∷ l) (only-earlier y (suc i) xs (λ z m. h z (mthere m)))

  only-late : (y : Placed R) (i : ℕ) (xs : List R) → ((x : R) → Mem x xs → g.number y.reference ≤ g.number x)
      → only (rises g) (pairs_to y (placed_from i xs)) ≡ []
  only-late y i [] h = refl
  only-late y i (x ∷ xs) h =
      let l = h x (mhere refl) in
      if_no (rises g (pair_of (at i x) y)) _ _ (λ (r : g.number x < g.number y.reference). omega arith) ∙ only-late y (suc i) xs (λ z m. h z (mthere m))

  -- the steps to one reference, where those of earlier loops come first
  pub steps_to-one : (y : Placed R) (xs zs : List R) → g.references ≡ xs ++ zs → ((x : R) → Mem x xs → g.number x < g.number y.reference)
      → ((z : R) → Mem z zs → g.number y.reference ≤ g.number z) → steps_to g (y ∷ []) ≡ pairs_to y (placed_from 0 xs)
  steps_to-one y xs zs e early late =
      ap (λ (l : List (Pair R)). only (rises g) l) (append-nil (pairs_to y (placed g)))
      ∙ ap (λ (l : List R). only (rises g) (pairs_to y (placed_from 0 l))) e
      ∙ ap (λ (l : List (Placed R)). only (rises g) (pairs_to y l)) (split xs zs)
      ∙ ap (only (rises g)) (pairs_to-append y (placed_from 0 xs) (placed_from (length xs) zs))
      ∙ only-append (rises g) (pairs_to y (placed_from 0 xs)) (pairs_to y (placed_from (length xs) zs))
      ∙ rw (only-earlier y 0 xs early, only-late y (length xs) zs late) (append-nil (pairs_to y (placed_from 0 xs)))
    where
      split : (xs zs : List R) → placed_from 0 (xs ++ zs) ≡ placed_from 0 xs ++ placed_from (length xs) zs
      split xs zs = let z : 0 + length xs ≡ length xs = omega arith in rw z at (placed-append 0 xs zs)

module _ {R : Type 0} (g : Graph R) (amount : R → R → ℕ) where
  -- the steps to one reference: its loop's number becomes the largest that any dependence ending at it requires
  to : Placed R → List R → List ℕ → List ℕ
  to y xs s = set s (g.number y.reference) (max (get_or s (g.number y.reference) 0) (maximum (required amount g s y.reference) xs))

  taken-to : (y : Placed R) (i : ℕ) (xs : List R) (s : List ℕ) → g.number y.reference < length s
      → run_all (row_step g amount) (only (rises g) (pairs_to y (placed_from i xs))) s ≡ to y xs s
  unfolding maximum raised_by to
  taken-to y i [] s l = sym (rw (max-zero (get_or s (g.number y.reference) 0)) (set-get_or s (g.number y.reference) 0))
  taken-to y i (x ∷ xs) s l = go (rises g (pair_of (at i x) y)) (taken-to y (suc i) xs)
    where
      go : (d : Dec (g.number x < g.number y.reference))
          → ((s : List ℕ) → g.number y.reference < length s → run_all (row_step g amount) (only (rises g) (pairs_to y (placed_from (suc i) xs))) s ≡ to y xs s)
          → run_all (row_step g amount) (if d (pair_of (at i x) y ∷ only (rises g) (pairs_to y (placed_from (suc i) xs))) (only (rises g) (pairs_to y (placed_from (suc i) xs)))) s
          ≡ to y (x ∷ xs) s
      go (yes r) ih =
          let k = g.number y.reference in
          let v = max (get_or s k 0) (required amount g s y.reference x) in
          let n = maximum (required amount g s y.reference) xs in
          let same : maximum (required amount g (set s k v) y.reference) xs ≡ n = maximum-same _ _ xs (λ z m. required-own amount g s k v y.reference z refl) in
          ih (set s k v) (rw (length-set s k v) l)
          ∙ set-set s k v (max (get_or (set s k v) k 0) (maximum (required amount g (set s k v) y.reference) xs))
          ∙ ap (λ (m : ℕ). set s k (max m (maximum (required amount g (set s k v) y.reference) xs))) (get_or-set_same s k v 0 l)
          ∙ ap (λ (m : ℕ). set s k (max v m)) same
          ∙ ap (set s k) (max-right (get_or s k 0) (required amount g s y.reference x) n)
      go (no r) ih =
          ih s l
          ∙ ap (λ (m : ℕ). set s (g.number y.reference) (max (get_or s (g.number y.reference) 0) m))
          (sym (rw (required-late amount g s y.reference x (omega arith)) (zero-max (maximum (required amount g s y.reference) xs))))

  -- the steps to references one after the other, and all of them
  taken-walk : (i : ℕ) (ys : List R) (s : List ℕ) → Below (length s) g ys → run_all (row_step g amount) (steps_to g (placed_from i ys)) s ≡ walk amount g ys s
  unfolding walk raised to
  taken-walk i [] s b = refl
  taken-walk i (y ∷ ys) s b =
      ap (λ (l : List (Pair R)). run_all (row_step g amount) l s) (only-append (rises g) (pairs_to (at i y) (placed g)) (pairs (placed g) (placed_from (suc i) ys)))
      ∙ run_all-append (row_step g amount) (only (rises g) (pairs_to (at i y) (placed g))) (steps_to g (placed_from (suc i) ys)) s
      ∙ ap (run_all (row_step g amount) (steps_to g (placed_from (suc i) ys))) (one s (b y (mhere refl)))
      ∙ taken-walk (suc i) ys (raised amount g s y) (λ z m. rw (length-raised amount g s y) (b z (mthere m)))
    where
      one : (s : List ℕ) → g.number y < length s → run_all (row_step g amount) (only (rises g) (pairs_to (at i y) (placed g))) s ≡ raised amount g s y
      one s l = taken-to (at i y) 0 g.references s l

  pub taken-numbers : Below 16 g g.references → run_all (row_step g amount) (steps g) (replicate 16 0) ≡ numbers amount g
  unfolding steps numbers
  taken-numbers b = taken-walk 0 g.references (replicate 16 0) b

-- the steps that follow: the first of them, and those after it
module _ {R : Type 0} {g : Graph R} {n : ℕ} {p : Pair R} {ps : List (Pair R)} (f : Following g n (p ∷ ps)) where
  pub following-first : Following g n (p ∷ [])
  following-first = record { done = f.done; rest = ps ++ f.rest; all = f.all; count = f.count }

  pub following-next : Following g (n + 1) ps
  following-next = record {
    done = f.done ++ (p ∷ []);
    rest = f.rest;
    all = f.all ∙ sym (append_assoc f.done (p ∷ []) (ps ++ f.rest));
    count = omega (arith, length-append f.done (p ∷ []), f.count);
  }

-- a pair is the next step of one count alone: once taken up it never is again
place-once : {A : Type 0} (p : A) (d e r q : List A) → NoDup (d ++ (p ∷ r)) → d ++ (p ∷ r) ≡ e ++ (p ∷ q) → length d ≡ length e
place-once p [] [] r q n s = refl
place-once p [] (y ∷ e) r q n s =
    let t : r ≡ e ++ (p ∷ q) = ap (drop 1) s in
    absurd (n p (bhere refl (rw t (Memᴰ.append_right e (mhere refl)))))
place-once {A = A} p (x ∷ d) [] r q n s =
    let h : x ≡ p = ap (λ (l : List A). get_or l 0 p) s in
    absurd (n p (bhere (sym h) (Memᴰ.append_right d (mhere refl))))
place-once p (x ∷ d) (y ∷ e) r q n s = ap suc (place-once p d e r q (λ z b. n z (bthere b)) (ap (drop 1) s))

pub following-once : {R : Type 0} (g : Graph R) (n m : ℕ) (p : Pair R) (ps qs : List (Pair R)) → Following g n (p ∷ ps) → Following g m (p ∷ qs) → n ≡ m
following-once g n m p ps qs f h =
    sym f.count ∙ place-once p f.done h.done (ps ++ f.rest) (qs ++ h.rest) (rw (← f.all) (step-once g)) (sym f.all ∙ h.all) ∙ h.count

-- both rows of numbers in one walk
both : (g : Graph Reference) (ps : List (Pair Reference)) (n : Numbers)
    → run_all (step g) ps n ≡ record { shifts = run_all (row_step g backward) ps n.shifts; peels = run_all (row_step g forward) ps n.peels; made = n.made + length ps }
both g [] n = let e : n.made + 0 ≡ n.made = omega arith in rw e
both g (p ∷ ps) n = let e : n.made + suc (length ps) ≡ suc n.made + length ps = omega arith in rw e (both g ps (step g p n))

pub made-steps : (g : Graph Reference) (ps : List (Pair Reference)) (n : Numbers) → (run_all (step g) ps n).made ≡ n.made + length ps
made-steps g ps n = ap (λ (m : Numbers). m.made) (both g ps n)

-- what the walk leaves are the numbers of before, and it has made each step
pub walked-numbers : (g : Graph Reference) → Below 16 g g.references → walked g ≡ record { shifts = shifts g; peels = peels g; made = length (steps g) }
walked-numbers g b =
    let e : 0 + length (steps g) ≡ length (steps g) = omega arith in
    both g (steps g) no_numbers ∙ rw (taken-numbers g backward b, taken-numbers g forward b, e)
