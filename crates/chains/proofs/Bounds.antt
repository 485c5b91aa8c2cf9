-- How large shifts, peels and the threshold can be: a chain that ends at loop k has at most k dependences.
use Rattle.std.specs.Prelude.{ℕ, ◌+◌, ◌*◌, max, ◌≤◌, ◌<◌, ◌≡◌, refl, Bool, true, false, List, length, get_or, set}
use Rattle.std.proofs.Common.{mul-le-mul_left, le_trans, arith, get_or-set_same, get_or-set_other}
use Rattle.std.proofs.Math.Decide.{ℕ_discrete, dec_le}
use Rattle.std.proofs.Math.ListN.{get_or-eq_default}
use Rattle.model.specs.declared.Reference.{Reference}
use Rattle.chains.specs.Graph.{Graph, Dependence}
use Rattle.chains.specs.Dependence.{backward, forward}
use Rattle.chains.specs.Walk.{required, numbers, shifts, peels, Below}
use Rattle.chains.proofs.WalkLaws.{required-met, required-none, numbers_of, numbers-length}
use Rattle.chains.specs.Steps.{raised_by}
use Rattle.chains.specs.Threshold.{threshold}
use Rattle.chains.proofs.ThresholdLaws.{threshold-bound}
use Rattle.chains.specs.Bounds.{Small, AtMost, InRange}

-- one step of the walk keeps them so
pub raised_by-small : {R : Type 0} (amount : R → R → ℕ) (g : Graph R) (m : ℕ) (x y : R) (s : List ℕ) → amount x y ≤ m → g.number y < length s
    → Small m s → Small m (raised_by g amount x y s)
unfolding raised_by
raised_by-small amount g m x y s most l small k = go (ℕ_discrete k (g.number y))
  where
    of : (b : Bool) → g.depends x y ≡ b → required amount g s y x ≤ m * g.number y
    of true e = rw (required-met amount g s y x e) (omega (arith, small (g.number x), most, mul-le-mul_left m (g.earlier x y e)))
    of false e = rw (required-none amount g s y x e) (omega arith)

    go : Dec (k ≡ g.number y) → get_or (set s (g.number y) (max (get_or s (g.number y) 0) (required amount g s y x))) k 0 ≤ m * k
    go (yes e) = rw (e, get_or-set_same s (g.number y) (max (get_or s (g.number y) 0) (required amount g s y x)) 0 l) (omega (arith, small (g.number y), of (g.depends x y) refl))
    go (no e) = rw (get_or-set_other s (g.number y) k (max (get_or s (g.number y) 0) (required amount g s y x)) 0 e) (small k)

module _ {R : Type 0} (amount : R → R → ℕ) (g : Graph R) (m : ℕ) (most : AtMost m amount g.references) where
  along : (x y : R) → Dependence g x y → (n : ℕ) → n ≤ m * (g.number x) → n + amount x y ≤ m * (g.number y)
  along x y d n h = omega (arith, most x y d.from d.to, mul-le-mul_left m (g.earlier x y d.joined))

  module _ (below : Below 16 g g.references) where
    pub numbers-small : Small m (numbers amount g)
    numbers-small = numbers_of amount g (λ k n. n ≤ m * k) (λ k. omega arith) along below

    -- the last of sixteen loops has fifteen before it
    pub numbers-bound : (k : ℕ) → get_or (numbers amount g) k 0 ≤ m * 15
    numbers-bound k = go (dec_le k 15)
      where
        go : Dec (k ≤ 15) → get_or (numbers amount g) k 0 ≤ m * 15
        go (yes l) = le_trans (numbers-small k) (mul-le-mul_left m l)
        go (no l) = rw (get_or-eq_default (numbers amount g) 0 {n = k} (omega (arith, numbers-length amount g))) (omega arith)

-- with offsets −255 to 255 no amount is above 510, so no shift or peel above 7,650, and no threshold above 15,300
module _ (g : Graph Reference) (below : Below 16 g g.references) (range : InRange g.references) where
  pub shifts-bound : (k : ℕ) → get_or (shifts g) k 0 ≤ 7650
  shifts-bound = numbers-bound backward g 510 (λ x y from to. omega (arith, range y to)) below

  pub peels-bound : (k : ℕ) → get_or (peels g) k 0 ≤ 7650
  peels-bound = numbers-bound forward g 510 (λ x y from to. omega (arith, range x from)) below

  pub plan-threshold-bound : threshold (shifts g) (peels g) ≤ 15300
  plan-threshold-bound = threshold-bound (shifts g) (peels g) 15300 (λ k l. omega (arith, shifts-bound k, peels-bound k))
