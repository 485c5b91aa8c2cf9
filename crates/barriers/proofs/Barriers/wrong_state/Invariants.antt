use Rattle.std.proofs.Common.{◌≡◌, ◌<◌, ℕ, false}
use Rattle.barriers.specs.Code.{beyond_by}
use Rattle.barriers.proofs.Barriers.wrong_state.Given as goal

abbrev pub invariant-loop-b : goal.invariant-loop-b
invariant-loop-b l = (k : ℕ) → k < l.b → beyond_by l.self.processors l.self.ends.now l.counts l.m k ≡ false
