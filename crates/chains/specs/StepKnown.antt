-- Walks by computation, over references that are bare loop numbers.
use Rattle.std.specs.Prelude.{ℕ, suc, ◌<◌, ◌≡◌, refl, true, List, [], ◌∷◌, eqb, replicate}
use Rattle.std.proofs.Math.Decide.{dec_lt}
use Rattle.std.proofs.Common.{arith, eqb-true}
use Rattle.order.specs.Sequences.{run_all}
use Rattle.chains.specs.Graph.{Graph}
use Rattle.chains.specs.Walk.{required}
use Rattle.chains.specs.Steps.{at, pair_of, steps, raised_by, row_step}

pub next : (x y : ℕ) → eqb (suc x) y ≡ true → x < y
next x y e = omega (arith, eqb-true (suc x) y e)

-- each loop with the next makes a dependence
abbrev pub chained : List ℕ → Graph ℕ
chained rs = record { references = rs; number = λ n. n; depends = λ x y. eqb (suc x) y; earlier = next }

-- three loops of one reference: three pairs, one of which makes no dependence; the second loop's number is final when the third's is raised by it
pub three-steps : steps (chained (0 ∷ 1 ∷ 2 ∷ [])) ≡ pair_of (at 0 0) (at 1 1) ∷ pair_of (at 0 0) (at 2 2) ∷ pair_of (at 1 1) (at 2 2) ∷ []
unfolding steps dec_lt
three-steps = refl

pub three-numbers : run_all (row_step (chained (0 ∷ 1 ∷ 2 ∷ [])) (λ x y. 1)) (steps (chained (0 ∷ 1 ∷ 2 ∷ []))) (replicate 3 0) ≡ 0 ∷ 1 ∷ 2 ∷ []
unfolding steps raised_by required dec_lt
three-numbers = refl

-- a loop that refers twice to one element: two pairs with each reference of another loop, and none of the two with each other
pub twice-steps : steps (chained (0 ∷ 0 ∷ 1 ∷ [])) ≡ pair_of (at 0 0) (at 2 1) ∷ pair_of (at 1 0) (at 2 1) ∷ []
unfolding steps dec_lt
twice-steps = refl
