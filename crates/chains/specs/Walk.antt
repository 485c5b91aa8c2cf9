-- One walk over the references of a table, in byte order, gives each loop a number: its shift, or its peel.
use Rattle.std.specs.Prelude.{ℕ, ◌+◌, max, ◌≤◌, ◌<◌, cond, List, [], ◌∷◌, get_or, set, replicate}
use mathlib.Core.List.{Memᴰ as Mem}
use Rattle.order.specs.Sequences.{Before}
use Rattle.model.specs.declared.Reference.{Reference}
use Rattle.chains.specs.Graph.{Graph}
use Rattle.chains.specs.Dependence.{backward, forward}
use Rattle.chains.specs.Maximum.{maximum}

-- what the dependence from x to y, if it is one, requires of y's loop, where s has the numbers of the earlier loops
unfoldable pub required : {R : Type 0} → (R → R → ℕ) → Graph R → List ℕ → R → R → ℕ
required amount g s y x = cond (g.depends x y) (get_or s (g.number x) 0 + amount x y) 0

-- y's loop gets the largest number that any dependence ending at y requires, if that is more than it has
unfoldable pub raised : {R : Type 0} → (R → R → ℕ) → Graph R → List ℕ → R → List ℕ
unfolding maximum required
raised amount g s y = set s (g.number y) (max (get_or s (g.number y) 0) (maximum (required amount g s y) g.references))

unfoldable pub walk : {R : Type 0} → (R → R → ℕ) → Graph R → List R → List ℕ → List ℕ
unfolding raised
walk amount g [] s = s
walk amount g (y ∷ ys) s = walk amount g ys (raised amount g s y)

-- a number for each of sixteen loops
unfoldable pub numbers : {R : Type 0} → (R → R → ℕ) → Graph R → List ℕ
unfolding walk
numbers amount g = walk amount g g.references (replicate 16 0)

abbrev pub shifts : Graph Reference → List ℕ
shifts g = numbers backward g

abbrev pub peels : Graph Reference → List ℕ
peels g = numbers forward g

-- what the walk asks of the references: the loop numbers never fall
abbrev pub Ordered : {R : Type 0} → Graph R → List R → Type 0
Ordered {R} g rs = (x y : R) → Before x y rs → g.number x ≤ g.number y

-- and stand below n
abbrev pub Below : {R : Type 0} → ℕ → Graph R → List R → Type 0
Below {R} n g rs = (y : R) → Mem y rs → g.number y < n
