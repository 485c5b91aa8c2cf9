-- A dependence graph: references of any kind R, the loop that each stands in, and which two of them make a dependence. Chains, legal numbers
-- and the walk are said of any such graph, whatever a reference is and whatever makes a dependence.
use Rattle.std.specs.Prelude.{ℕ, ◌<◌, ◌≡◌, Bool, true, List}
use mathlib.Core.List.{Memᴰ as Mem}

pub record Graph (R : Type 0) : Type 0 where
  pub references : List R
  pub number : R → ℕ
  pub depends : R → R → Bool
  -- a dependence leads from an earlier loop to a later one
  pub earlier : (x y : R) → depends x y ≡ true → number x < number y

-- x and y, both of the graph, make a dependence
pub record Dependence {R : Type 0} (g : Graph R) (x y : R) : Type 0 where
  pub from : Mem x g.references
  pub to : Mem y g.references
  pub joined : g.depends x y ≡ true
