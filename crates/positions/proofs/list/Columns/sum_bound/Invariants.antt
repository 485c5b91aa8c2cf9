use Rattle.std.proofs.Common.{◌≡◌, ◌<◌, ◌+◌, ◌^◌}
use Rattle.blocks.specs.Sums.{largest}
use Rattle.positions.specs.Code.{range_in, shift_in}
use Rattle.positions.proofs.list.Columns.sum_bound.Given as goal

-- the walk has seen the first k loops
abbrev pub invariant-loop-k : goal.invariant-loop-k
invariant-loop-k l = (l.most < 2 ^ 33) × (l.most ≡ largest l.k (λ j. (range_in l.self j).past + shift_in l.self j))
