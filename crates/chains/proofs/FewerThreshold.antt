-- Fewer dependences give no larger threshold.
use Rattle.std.specs.Prelude.{◌≤◌}
use Rattle.model.specs.Table.{Table, count}
use Rattle.chains.specs.Dependence.{backward, forward}
use Rattle.chains.specs.TableGraph.{graph}
use Rattle.chains.specs.Fewer.{without_bounds}
use Rattle.chains.specs.Walk.{shifts, peels}
use Rattle.chains.specs.Threshold.{threshold}
use Rattle.chains.proofs.ThresholdLaws.{threshold-smaller}
use Rattle.chains.proofs.Fewer.{never-larger}

-- where bounds are asked the threshold is no larger than where they play no part
pub threshold-never-larger : (t : Table) → count t ≤ 16
    → threshold (shifts (graph t)) (peels (graph t)) ≤ threshold (shifts (without_bounds t)) (peels (without_bounds t))
threshold-never-larger t few = threshold-smaller _ _ _ _ (never-larger t few backward) (never-larger t few forward)
