-- The numbers of the walk are the largest totals over all chains; they are legal, and no legal ones are smaller.
use Rattle.std.specs.Prelude.{ℕ, ◌+◌, ◌≤◌, ◌<◌, ◌≡◌, ◌⊎◌, true, length, replicate}
use Rattle.std.proofs.Math.Path.{refl}
use Rattle.std.proofs.Common.{inl, inr, le_trans, arith}
use Rattle.std.proofs.Math.Logic.{⊎_elim}
use mathlib.Core.List.{List, [], ◌∷◌}
use mathlib.Core.List.Memᴰ.{cases_cons}
use mathlib.Core.List.Memᴰ.{head as mhere}
use mathlib.Core.List.Memᴰ.{not-nil}
use mathlib.Core.List.Memᴰ.{tail as mthere}
use mathlib.Core.List.{Memᴰ as Mem}
use Rattle.std.proofs.Math.Nat.{le-max_left, le-max_right}
use Rattle.std.proofs.Math.Decide.{ℕ_discrete}
use Rattle.std.proofs.Math.ListN.{get_or}
use Rattle.order.specs.Sequences.{bhere, bthere}
use Rattle.chains.specs.Graph.{Graph, Dependence}
use Rattle.chains.specs.Chains.{Chain, one, more, chain_total, Largest}
use Rattle.chains.specs.ChainLaws.{largest-of}
use Rattle.chains.specs.Legal.{Legal}
use Rattle.chains.specs.LegalLaws.{chain-below}
use Rattle.chains.specs.Maximum.{maximum}
use Rattle.chains.specs.MaximumLaws.{maximum-upper}
use Rattle.chains.specs.Walk.{required, raised, walk, numbers, Ordered, Below}
use Rattle.chains.proofs.WalkLaws.{required-met, raised-same, raised-other, length-raised, numbers_of}

module _ {R : Type 0} (amount : R → R → ℕ) (g : Graph R) where
  -- every dependence that ends at y is met
  Met : List ℕ → R → Type 0
  Met s y = (x : R) → Mem x g.references → g.depends x y ≡ true → get_or s (g.number x) 0 + amount x y ≤ get_or s (g.number y) 0

  raised-meets : (s : List ℕ) (y : R) → g.number y < length s → Met (raised amount g s y) y
  unfolding Met
  raised-meets s y h x m e =
      let low = g.earlier x y e in
      let u : get_or s (g.number x) 0 + amount x y ≤ maximum (required amount g s y) g.references = rw (required-met amount g s y x e) at (maximum-upper (required amount g s y) m) in
      rw (raised-other amount g s y (g.number x) (omega arith), raised-same amount g s y h) (le_trans u (le-max_right _ _))

  raised_keeps : (s : List ℕ) (y z : R) → g.number z < length s → g.number y ≤ g.number z → Met s y → Met (raised amount g s z) y
  unfolding Met
  raised_keeps s y z h l met x m e = go (ℕ_discrete (g.number y) (g.number z))
    where
      low : g.number x < g.number y
      low = g.earlier x y e

      under : get_or (raised amount g s z) (g.number x) 0 ≡ get_or s (g.number x) 0
      under = raised-other amount g s z (g.number x) (omega (arith, low))

      go : Dec (g.number y ≡ g.number z) → get_or (raised amount g s z) (g.number x) 0 + amount x y ≤ get_or (raised amount g s z) (g.number y) 0
      go (yes q) = rw (under, q, raised-same amount g s z h) (le_trans (rw q at (met x m e)) (le-max_left _ _))
      go (no q) = rw (under, raised-other amount g s z (g.number y) q) (met x m e)

  below_rest : (s : List ℕ) (z : R) (ys : List R) → Below (length s) g (z ∷ ys) → Below (length (raised amount g s z)) g ys
  below_rest s z ys b y m = rw (length-raised amount g s z) (b y (mthere m))

  -- no later reference of the walk stands in a loop before y's, so what is met at y stays met
  walk-keeps : (ys : List R) (s : List ℕ) (y : R) → Below (length s) g ys → ((z : R) → Mem z ys → g.number y ≤ g.number z) → Met s y
      → Met (walk amount g ys s) y
  unfolding walk
  walk-keeps [] s y b f met = met
  walk-keeps (z ∷ ys) s y b f met =
      walk-keeps ys (raised amount g s z) y (below_rest s z ys b) (λ x m. f x (mthere m)) (raised_keeps s y z (b z (mhere refl)) (f z (mhere refl)) met)

  walk_meets : (ys : List R) (s : List ℕ) (y : R) → Below (length s) g ys → Ordered g ys → Mem y ys → Met (walk amount g ys s) y
  unfolding walk
  walk_meets [] s y b o m = absurd (not-nil m)
  walk_meets (z ∷ ys) s y b o m =
      ⊎_elim here (walk_meets ys (raised amount g s z) y (below_rest s z ys b) (λ u v p. o u v (bthere p))) (cases_cons m)
    where
      here : y ≡ z → Met (walk amount g ys (raised amount g s z)) y
      here e =
          rw e
          (walk-keeps ys (raised amount g s z) z (below_rest s z ys b) (λ v i. o z v (bhere refl i)) (raised-meets s z (b z (mhere refl))))

  module _ (ordered : Ordered g g.references) (below : Below 16 g g.references) where
    -- for each dependence the later loop's number is at least the earlier's plus the amount
    pub numbers-legal : Legal amount g (numbers amount g)
    unfolding numbers Met
    numbers-legal x y d = walk_meets g.references (replicate 16 0) y below ordered d.to x d.from d.joined

    -- each number is 0 or some chain's total
    numbers-reached : (k : ℕ) → (get_or (numbers amount g) k 0 ≡ 0) ⊎ ((c : Chain g k) × (chain_total amount c ≡ get_or (numbers amount g) k 0))
    numbers-reached = numbers_of amount g Reached (λ k. inl refl) along below
      where
        Reached : ℕ → ℕ → Type 0
        Reached k n = (n ≡ 0) ⊎ ((c : Chain g k) × (chain_total amount c ≡ n))

        along : (x y : R) → Dependence g x y → (n : ℕ) → Reached (g.number x) n → Reached (g.number y) (n + amount x y)
        along x y d n r = ⊎_elim (λ e. inr (one d, omega arith)) (λ t. inr (more t.0 d, omega arith)) r

    -- the theorem: a loop's number is the largest total over all chains that end at it, and 0 where none ends
    pub numbers-largest : (k : ℕ) → Largest amount g k (get_or (numbers amount g) k 0)
    numbers-largest k = largest-of g k amount _ (chain-below amount g (numbers amount g) numbers-legal) (numbers-reached k)

    -- no legal number is below it
    pub numbers-least : (s : List ℕ) → Legal amount g s → (k : ℕ) → get_or (numbers amount g) k 0 ≤ get_or s k 0
    numbers-least s l k = ⊎_elim (λ e. omega arith) (λ t. omega (arith, chain-below amount g s l t.0)) (numbers-reached k)
