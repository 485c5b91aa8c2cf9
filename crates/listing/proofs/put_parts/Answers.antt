use native.Mathlib.Omega.{arith}
use Rattle.ranges.specs.Listed.{few-blocks}
use Rattle.listing.proofs.Laws.{lines_start, lines_next, lines_end}
use Rattle.listing.proofs.put_parts.Goals as goal

pub loop-b-init : goal.loop-b-init
loop-b-init c = lines_start

pub loop-b-preserved : goal.loop-b-preserved
loop-b-preserved c = lines_next c.loop-b.invariant c.loop-b-test.true c.put_block_parts.ensures

pub returns : goal.returns
returns c = lines_end 102400 (omega (arith, few-blocks c.args.a.now c.args.store.now c.requires.1)) c.loop-b.invariant c.loop-b-test.false
