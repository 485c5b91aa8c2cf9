use Rattle.std.proofs.Common.{◌≡◌, ◌≤◌, ◌*◌, ◌^◌}
use Rattle.blocks.specs.Sums.{total}
use Rattle.positions.specs.Code.{weighted_in}
use Rattle.positions.proofs.list.Weighted.below_sum.Given as goal

-- the walk has counted the first k loops
abbrev pub invariant-loop-k : goal.invariant-loop-k
invariant-loop-k l = (l.sum ≤ l.k * 2 ^ 48) × (l.sum ≡ total l.k (weighted_in l.self l.t))
