use Rattle.std.proofs.Common.{◌≡◌, ◌<◌, ◌≤◌, ◌-◌}
use Rattle.barriers.specs.Code.{open_by, last_open_by}
use Rattle.barriers.proofs.Barriers.last_open.Given as goal

abbrev pub invariant-loop-n : goal.invariant-loop-n
invariant-loop-n l =
    (last_open_by l.self.processors l.self.ends.now l.counts l.self.phases ≡ open_by l.self.processors l.self.ends.now l.counts (l.n - 1))
    × (0 < l.n) × (l.n ≤ l.self.phases)
