use Rattle.std.proofs.Common.{◌≡◌, ◌<◌, ℕ, false}
use Rattle.barriers.specs.Code.{left_by}
use Rattle.barriers.proofs.Barriers.lowest_left.Given as goal

abbrev pub invariant-loop-b : goal.invariant-loop-b
invariant-loop-b l = (k : ℕ) → k < l.b → left_by l.self.ends.now l.counts l.n k ≡ false
