use Rattle.std.proofs.Common.{rules}
use Rattle.text.specs.Puts.{puts-first}
use Rattle.numbers.specs.Pairs.{rowed-none, rowed-next, rowed-end}
use Rattle.entries.proofs.write_amounts.Goals as goal

pub loop-k-init : goal.loop-k-init
loop-k-init c = rowed-none

pub loop-k-preserved : goal.loop-k-preserved
loop-k-preserved c = rowed-next c.loop-k.invariant c.loop-k-test.true c.put_pair.ensures

pub returns : goal.returns
returns c =
    let w = puts-first c.new-row.ensures.bytes c.new-row.ensures.place (rowed-end c.loop-k.invariant c.loop-k-test.false) in
    search rules
