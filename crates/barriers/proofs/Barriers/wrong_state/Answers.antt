use Rattle.std.proofs.Common.{arith, lt-ltb}
use Rattle.barriers.proofs.Laws.{wrong-here, wrong-none}
use Rattle.barriers.proofs.Barriers.wrong_state.Goals as goal

pub returns-then-most_of-counts : goal.returns-then-most_of-counts
returns-then-most_of-counts c =
    let a = c.args in
    wrong-here a.self.now.processors a.self.now.ends.now a.counts.now a.self.now.phases c.last_open-m.result c.last_open-m.ensures.is
    c.loop-b.b (omega arith) (lt-ltb _ _ (omega (arith, c.most_of.ensures)))

pub returns : goal.returns
returns c =
    let a = c.args in
    wrong-none a.self.now.processors a.self.now.ends.now a.counts.now a.self.now.phases c.last_open-m.result c.last_open-m.ensures.is
    (λ k i. c.loop-b.invariant k (omega arith))
