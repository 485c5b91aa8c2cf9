-- Chains of dependences, and the largest total over all chains that end at a loop.
use Rattle.std.specs.Prelude.{ℕ, ◌+◌, ◌≤◌, ◌≡◌, ◌⊎◌}
use Rattle.chains.specs.Graph.{Graph, Dependence}

-- a row of dependences, each starting at the loop where the one before ended; `Chain g k` ends at loop k
pub data Chain {R : Type 0} (g : Graph R) : ℕ → Type 0 where
  one : {x y : R} → Dependence g x y → Chain g (g.number y)
  more : {x y : R} → Chain g (g.number x) → Dependence g x y → Chain g (g.number y)

-- an amount, as `backward` or `forward`, summed over a chain
abbrev pub chain_total : {R : Type 0} {g : Graph R} {k : ℕ} → (R → R → ℕ) → Chain g k → ℕ
chain_total amount (one {x} {y} d) = amount x y
chain_total amount (more {x} {y} c d) = chain_total amount c + amount x y

-- n is the largest total over all chains that end at loop k, and 0 where no chain ends there
pub record Largest {R : Type 0} (amount : R → R → ℕ) (g : Graph R) (k n : ℕ) : Type 0 where
  pub bound : (c : Chain g k) → chain_total amount c ≤ n
  pub attained : ((c : Chain g k) × (chain_total amount c ≡ n)) ⊎ ((Chain g k → ⊥) × (n ≡ 0))
