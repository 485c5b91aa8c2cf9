use Rattle.std.proofs.Common.{◌≡◌, ◌<◌, ◌≤◌, ◌-◌}
use Rattle.barriers.specs.Code.{come_by, phase_by}
use Rattle.barriers.proofs.Barriers.phase_of.Given as goal

abbrev pub invariant-loop-n : goal.invariant-loop-n
invariant-loop-n l =
    (phase_by l.self.ends.now l.self.phases l.b l.done ≡ come_by l.self.ends.now l.b l.done (l.n - 1)) × (0 < l.n) × (l.n ≤ l.self.phases)
