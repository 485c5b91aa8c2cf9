use Rattle.std.proofs.Common.{ℕ, ◌≤◌, ◌*◌, ◌^◌}
use Rattle.blocks.specs.Sums.{total}
use Rattle.positions.specs.Lines.{Counted}
use Rattle.positions.specs.Code.{weighted_in}
use Rattle.positions.proofs.list.Weighted.line.Given as goal

-- the line counts the first k loops
abbrev pub invariant-loop-k : goal.invariant-loop-k
invariant-loop-k l = (l.l.slope ≤ l.k * 65536) × (l.l.offset ≤ l.k * 2 ^ 49) × ((t : ℕ) → Counted l.l t (total l.k (weighted_in l.self t)))
