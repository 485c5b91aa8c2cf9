use Rattle.std.proofs.Common.{rules}
use Rattle.text.specs.Puts.{puts-first}
use Rattle.numbers.specs.Pairs.{rowed-none, rowed-next, rowed-end}
use Rattle.entries.proofs.write_blocks.Goals as goal

pub loop-b-init : goal.loop-b-init
loop-b-init c = rowed-none

pub loop-b-preserved : goal.loop-b-preserved
loop-b-preserved c = rowed-next c.loop-b.invariant c.loop-b-test.true (rw c.block-r.ensures at (rw c.saturating_sub-last.ensures at c.put_pair.ensures))

pub returns : goal.returns
returns c =
    let w = puts-first c.new-row.ensures.bytes c.new-row.ensures.place (rowed-end c.loop-b.invariant c.loop-b-test.false) in
    search rules
