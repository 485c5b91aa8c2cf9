use Rattle.numbers.specs.Pairs.{rowed-none, rowed-next, rowed-end}
use Rattle.facts.proofs.put_arrays.Goals as goal

pub loop-q-init : goal.loop-q-init
loop-q-init c = rowed-none

pub loop-q-preserved : goal.loop-q-preserved
loop-q-preserved c = rowed-next c.loop-q.invariant c.loop-q-test.true c.put_pair.ensures

pub returns : goal.returns
returns c = rowed-end c.loop-q.invariant c.loop-q-test.false
