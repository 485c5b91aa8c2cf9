-- Lists by computation.
use Rattle.std.specs.Prelude.{◌≡◌, refl, [], ◌∷◌}
use Rattle.model.specs.Table.{iteration}
use Rattle.lists.specs.Lists.{loop_at, sum_at, sum_bound, by_sums, loop_over, by_loops, fused_columns, peeled_columns}

-- KNOWN RESULTS, by computation. The lists of processor 0 in the example, two loops from 1 to 10 with shifts and peels 0 and 1, P = 2:
-- fused 0 0 1 5, fused 0 1 1 4, peeled 0 1 5 6; and a peeled list of two loops
pub known : (fused_columns (1 ∷ 1 ∷ []) (6 ∷ 5 ∷ []) (0 ∷ 1 ∷ []) ∷ peeled_columns (6 ∷ 5 ∷ []) (6 ∷ 7 ∷ []) ∷ peeled_columns (4 ∷ 3 ∷ []) (6 ∷ 5 ∷ []) ∷ [])
    ≡ (iteration 0 1 ∷ iteration 0 2 ∷ iteration 1 1 ∷ iteration 0 3 ∷ iteration 1 2 ∷ iteration 0 4 ∷ iteration 1 3 ∷ iteration 0 5 ∷ iteration 1 4 ∷ [])
    ∷ (iteration 1 5 ∷ iteration 1 6 ∷ [])
    ∷ (iteration 0 4 ∷ iteration 0 5 ∷ iteration 1 3 ∷ iteration 1 4 ∷ [])
    ∷ []
unfolding loop_at sum_at sum_bound by_sums loop_over by_loops
known = refl
