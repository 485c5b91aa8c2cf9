-- What the contracts of the code below the entries cite. Assumes nothing.
use Rattle.std.specs.Prelude.{ℕ, ◌≤◌, ◌<◌, ◌^◌, ◌≡◌, List, length, get_or}
use Rattle.model.specs.declared.Iteration.{Iteration}
use Rattle.model.specs.Table.{iteration}

-- a list of so many iterations, each of numbers that fit four bytes
pub record Fitting (size : ℕ) (l : List Iteration) : Type 0 where
  pub sized : size ≡ length l
  pub few : size ≤ 2 ^ 36
  pub loop : (n : ℕ) → n < size → (get_or l n (iteration 0 0)).number < 2 ^ 32
  pub index : (n : ℕ) → n < size → (get_or l n (iteration 0 0)).index < 2 ^ 32
