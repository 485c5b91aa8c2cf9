use native.Mathlib.Omega.{arith}
use Rattle.ranges.specs.Listed.{few-loops, block-asks, part-asks}
use Rattle.listing.proofs.Laws.{lines_start, lines_next}
use Rattle.listing.proofs.put_block_parts.Goals as goal

pub block-blk-requires : goal.block-blk-requires
block-blk-requires c = block-asks c.args.a.now c.args.store.now c.requires.2 c.args.b c.requires.1

pub loop-k-init : goal.loop-k-init
loop-k-init c = lines_start

pub range_at-r-requires : goal.range_at-r-requires
range_at-r-requires c =
    let a = c.args in
    let n = c.loops_in-k-end.ensures in
    part-asks a.a.now a.store.now c.requires.2 a.b c.loop-k.k _ c.requires.1 (omega (arith, c.loop-k-test.true)) c.block-blk.ensures

pub put_range-requires : goal.put_range-requires
put_range-requires c =
    let l = c.loop-k.invariant.puts.put in
    let few = few-loops c.args.a.now c.args.store.now c.requires.2 in
    omega (arith, l.place, l.few, c.requires.0, c.loops_in-k-end.ensures, c.loop-k-test.true)

pub loop-k-preserved : goal.loop-k-preserved
loop-k-preserved c =
    let n = c.loops_in-k-end.ensures in
    let e = rw c.block-blk.ensures at (rw c.part_in-part.ensures at c.range_at-r.ensures) in
    lines_next c.loop-k.invariant (omega (arith, c.loop-k-test.true)) (rw e at c.put_range.ensures)
