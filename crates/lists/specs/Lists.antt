-- The orders of a fused and of a peeled list. K loops: loop k has the range r k, with an exclusive end, and the shift s k.
use Rattle.std.specs.Prelude.{cond, ◌&&◌, List, [], ◌∷◌, ℕ, ◌+◌, ◌-◌, length, ltb, leb}
use Rattle.order.specs.Sequences.{joined}
use Rattle.model.specs.declared.Iteration.{Iteration}
use Rattle.model.specs.Table.{iteration}
use Rattle.blocks.specs.declared.Range.{Range}
use Rattle.blocks.specs.Sums.{largest, column}

-- what loop k has at the sum t: iteration t - s, if that is in its range
unfoldable pub loop_at : Range → ℕ → ℕ → ℕ → List Iteration
loop_at r s t k = cond (leb (r.from + s) t && ltb t (r.past + s)) (iteration k (t - s) ∷ []) []

abbrev pub here : (ℕ → Range) → (ℕ → ℕ) → ℕ → ℕ → List Iteration
here r s t k = loop_at (r k) (s k) t k

-- the iterations of the sum t, in loop order
unfoldable pub sum_at : ℕ → (ℕ → Range) → (ℕ → ℕ) → ℕ → List Iteration
sum_at K r s t = joined K (here r s t)

-- no sum is as large
unfoldable pub sum_bound : ℕ → (ℕ → Range) → (ℕ → ℕ) → ℕ
sum_bound K r s = largest K (λ k. (r k).past + s k)

-- a fused list: in rising order of i + s, equal sums in loop order
unfoldable pub by_sums : ℕ → (ℕ → Range) → (ℕ → ℕ) → List Iteration
by_sums K r s = joined (sum_bound K r s) (sum_at K r s)

-- the iterations of loop k, i rising
unfoldable pub loop_over : Range → ℕ → List Iteration
loop_over r k = joined (r.past - r.from) (λ j. iteration k (r.from + j) ∷ [])

abbrev pub over : (ℕ → Range) → ℕ → List Iteration
over r k = loop_over (r k) k

-- a peeled list: loop by loop, i rising
unfoldable pub by_loops : ℕ → (ℕ → Range) → List Iteration
by_loops K r = joined K (over r)

-- ranges that the code keeps in columns
abbrev pub ranges : List ℕ → List ℕ → ℕ → Range
ranges froms pasts k = record { from = column froms k; past = column pasts k }

abbrev pub fused_columns : List ℕ → List ℕ → List ℕ → List Iteration
fused_columns froms pasts shifts = by_sums (length froms) (ranges froms pasts) (column shifts)

abbrev pub peeled_columns : List ℕ → List ℕ → List Iteration
peeled_columns froms pasts = by_loops (length froms) (ranges froms pasts)
