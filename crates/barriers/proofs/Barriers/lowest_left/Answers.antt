use Rattle.std.proofs.Common.{arith, lt-ltb}
use Rattle.barriers.specs.Code.{left_by}
use Rattle.barriers.proofs.Laws.{found-below, none-below}
use Rattle.barriers.proofs.Barriers.lowest_left.Goals as goal

pub returns-then-counts-b : goal.returns-then-counts-b
returns-then-counts-b c =
    let a = c.args in
    found-below a.self.now.processors (left_by a.self.now.ends.now a.counts.now a.n) c.loop-b.b (omega arith) c.loop-b.invariant
    (lt-ltb _ _ (omega (arith, c.before-in-loop-b.ensures)))

pub returns : goal.returns
returns c =
    let a = c.args in
    none-below a.self.now.processors (left_by a.self.now.ends.now a.counts.now a.n) (λ k i. c.loop-b.invariant k (omega arith))
