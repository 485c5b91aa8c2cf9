-- Facts of a table, four bytes each, or the refusal: 1 to 9, then 13. They are what a caller would else decode for itself.
use Rattle.std.specs.Prelude.{ℕ, List, [], ◌∷◌, ◌++◌, get_or, length}
use Rattle.order.specs.Sequences.{joined}
use Rattle.model.specs.Table.{Table, count, first, last}
use Rattle.model.specs.Bodies.{begins}
use Rattle.refusals.specs.Answers.{after}
use Rattle.serial.specs.Serial.{table}
use Rattle.iterations.specs.Memory.{element_total}
use Rattle.numbers.specs.Asked.{numbers}
use Rattle.outputs.specs.Given.{Given}

module _ (t : Table) where
  abbrev pub arrays : ℕ
  arrays = length t.lengths

  -- how many arrays, how many loops, how many elements in all
  abbrev pub counts_of : List ℕ
  counts_of = arrays ∷ count t ∷ element_total t ∷ []

  -- each array's first element in the memory, and its length
  abbrev pub arrays_of : List ℕ
  arrays_of = joined arrays (λ q. begins t.lengths q ∷ get_or t.lengths q 0 ∷ [])

  -- each loop's first and last index
  abbrev pub bounds_of : List ℕ
  bounds_of = joined (count t) (λ k. first t k ∷ last t k ∷ [])

  abbrev pub facts_of : List ℕ
  facts_of = counts_of ++ arrays_of ++ bounds_of

unfoldable pub facts_given : List ℕ → ℕ → Given
facts_given s room = after (table s) (λ t. numbers room (facts_of t))
