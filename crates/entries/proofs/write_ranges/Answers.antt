use native.Mathlib.Omega.{arith}
use Rattle.std.proofs.Common.{rules}
use Rattle.text.specs.Puts.{puts-first}
use Rattle.numbers.specs.Pairs.{rowed-none, rowed-next, rowed-end}
use Rattle.ranges.specs.Listed.{block-asks, part-asks}
use Rattle.entries.proofs.write_ranges.Goals as goal

pub block-blk-requires : goal.block-blk-requires
block-blk-requires c = block-asks c.args.a.now c.args.store.now c.requires.0 c.args.b c.requires.1

pub loop-k-init : goal.loop-k-init
loop-k-init c = rowed-none

pub range_at-r-requires : goal.range_at-r-requires
range_at-r-requires c =
    let a = c.args in
    let n = c.loops_in-k-end.ensures in
    part-asks a.a.now a.store.now c.requires.0 a.b c.loop-k.k _ c.requires.1 (omega (arith, c.loop-k-test.true)) c.block-blk.ensures

pub loop-k-preserved : goal.loop-k-preserved
loop-k-preserved c =
    let n = c.loops_in-k-end.ensures in
    let e = rw c.block-blk.ensures at (rw c.part_in-part.ensures at c.range_at-r.ensures) in
    rowed-next c.loop-k.invariant (omega (arith, c.loop-k-test.true)) (rw e at c.put_range.ensures)

pub returns : goal.returns
returns c =
    let n = c.loops_in-k-end.ensures in
    let w = puts-first c.new-row.ensures.bytes c.new-row.ensures.place (rowed-end c.loop-k.invariant (omega (arith, c.loop-k-test.false))) in
    search rules
