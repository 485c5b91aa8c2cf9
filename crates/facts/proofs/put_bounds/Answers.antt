use Rattle.numbers.specs.Pairs.{rowed-none, rowed-next, rowed-end}
use Rattle.facts.proofs.put_bounds.Goals as goal

pub loop-k-init : goal.loop-k-init
loop-k-init c = rowed-none

pub loop-k-preserved : goal.loop-k-preserved
loop-k-preserved c =
    rowed-next c.loop-k.invariant c.loop-k-test.true (rw c.last_at-last.ensures at (rw c.first_at-first.ensures at c.put_pair.ensures))

pub returns : goal.returns
returns c = rowed-end c.loop-k.invariant c.loop-k-test.false
