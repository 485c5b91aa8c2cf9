-- The walk over pairs: each step takes up one pair of references of two different loops, and of the numbers changes those of the later loop.
use Rattle.std.specs.Prelude.{ℕ, suc, max, ◌<◌, ◌≡◌, List, [], ◌∷◌, ◌++◌, length, get_or, replicate}
use Rattle.std.proofs.Math.Decide.{dec_lt}
use Rattle.std.proofs.Math.ListN.{set}
use Rattle.order.specs.Sequences.{run_all}
use Rattle.order.specs.Lists.{only}
use Rattle.model.specs.declared.Reference.{Reference}
use Rattle.chains.specs.Graph.{Graph}
use Rattle.chains.specs.Dependence.{backward, forward}
use Rattle.chains.specs.Walk.{required}

-- A reference and its position in the graph's row of references, for a table in byte order. A loop may read one element twice: those are two
-- positions
pub record Placed (R : Type 0) : Type 0 where
  pub position : ℕ
  pub reference : R

-- two of them, the first meant as the one of the earlier loop
pub record Pair (R : Type 0) : Type 0 where
  pub earlier : Placed R
  pub later : Placed R

module _ {R : Type 0} where
  abbrev pub at : ℕ → R → Placed R
  at i x = record { position = i; reference = x }

  abbrev pub pair_of : Placed R → Placed R → Pair R
  pair_of x y = record { earlier = x; later = y }

  -- references with their positions, the first of them at i
  abbrev pub placed_from : ℕ → List R → List (Placed R)
  placed_from i [] = []
  placed_from i (x ∷ xs) = at i x ∷ placed_from (suc i) xs

  -- the pairs of each of xs with y
  abbrev pub pairs_to : Placed R → List (Placed R) → List (Pair R)
  pairs_to y [] = []
  pairs_to y (x ∷ xs) = pair_of x y ∷ pairs_to y xs

  -- the pairs of each of xs with each of ys
  abbrev pub pairs : List (Placed R) → List (Placed R) → List (Pair R)
  pairs xs [] = []
  pairs xs (y ∷ ys) = pairs_to y xs ++ pairs xs ys

module _ {R : Type 0} (g : Graph R) where
  abbrev pub placed : List (Placed R)
  placed = placed_from 0 g.references

  -- the first reference's loop comes before the second's
  abbrev pub Rises : Pair R → Type 0
  Rises p = g.number p.earlier.reference < g.number p.later.reference

  abbrev pub rises : (p : Pair R) → Dec (Rises p)
  rises p = dec_lt (g.number p.earlier.reference) (g.number p.later.reference)

  -- such pairs of any reference with one of ys
  abbrev pub steps_to : List (Placed R) → List (Pair R)
  steps_to ys = only rises (pairs placed ys)

  -- THE STEPS: all such pairs, the later reference in byte order and for each of them the earlier in byte order
  unfoldable pub steps : List (Pair R)
  steps = steps_to placed

  -- what the pair of x and y leaves of a row of numbers: that of y's loop is what the pair requires, where this is more
  unfoldable pub raised_by : (R → R → ℕ) → R → R → List ℕ → List ℕ
  unfolding required
  raised_by amount x y s = set s (g.number y) (max (get_or s (g.number y) 0) (required amount g s y x))

  -- what a step leaves of it
  abbrev pub row_step : (R → R → ℕ) → Pair R → List ℕ → List ℕ
  row_step amount p = raised_by amount p.earlier.reference p.later.reference

-- ps are the next steps after the first n
pub record Following {R : Type 0} (g : Graph R) (n : ℕ) (ps : List (Pair R)) : Type 0 where
  pub done : List (Pair R)
  pub rest : List (Pair R)
  pub all : steps g ≡ done ++ (ps ++ rest)
  pub count : length done ≡ n

-- the shifts, the peels, and how many steps have been made
pub record Numbers : Type 0 where
  pub shifts : List ℕ
  pub peels : List ℕ
  pub made : ℕ

abbrev pub take_up : Graph Reference → Reference → Reference → Numbers → Numbers
take_up g x y n = record { shifts = raised_by g backward x y n.shifts; peels = raised_by g forward x y n.peels; made = suc n.made }

-- ONE STEP
abbrev pub step : Graph Reference → Pair Reference → Numbers → Numbers
step g p = take_up g p.earlier.reference p.later.reference

abbrev pub no_numbers : Numbers
no_numbers = record { shifts = replicate 16 0; peels = replicate 16 0; made = 0 }

-- THE WALK: the steps, one after the other, from zeros
abbrev pub walked : Graph Reference → Numbers
walked g = run_all (step g) (steps g) no_numbers
