use Rattle.std.proofs.Common.{◌≡◌, ◌≤◌, ◌*◌}
use Rattle.blocks.specs.Sums.{total}
use Rattle.barriers.specs.Code.{before_by}
use Rattle.barriers.proofs.Barriers.listed.Given as goal

abbrev pub invariant-loop-b : goal.invariant-loop-b
invariant-loop-b l = (l.sum ≡ total l.b (before_by l.self.ends.now l.self.phases)) × (l.sum ≤ 3200000 * l.b)
