-- A law of legal numbers.
use Rattle.std.specs.Prelude.{ℕ, ◌≤◌, List, get_or}
use Rattle.std.proofs.Common.{arith}
use Rattle.chains.specs.Graph.{Graph}
use Rattle.chains.specs.Chains.{Chain, one, more, chain_total}
use Rattle.chains.specs.Legal.{Legal}

-- a chain's total is at most the number of the loop where it ends
pub chain-below : {R : Type 0} (amount : R → R → ℕ) (g : Graph R) (s : List ℕ) → Legal amount g s → {k : ℕ} (c : Chain g k)
    → chain_total amount c ≤ get_or s k 0
chain-below amount g s h (one {x} {y} d) = omega (arith, h x y d)
chain-below amount g s h (more {x} {y} c d) = omega (arith, h x y d, chain-below amount g s h c)
