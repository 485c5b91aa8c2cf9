use Rattle.std.proofs.Common.{rules, arith}
use Rattle.text.specs.Puts.{puts_then, puts-first, puts-past}
use Rattle.text.specs.Written.{put_whole}
use Rattle.ranges.specs.Listed.{few-blocks, cuttable}
use Rattle.listing.proofs.Laws.{listed}
use Rattle.listing.proofs.write_listing.Goals as goal

pub put_blocks-requires : goal.put_blocks-requires
put_blocks-requires c =
    let a = c.args in
    let st = a.store.now in
    (omega (arith, c.new-lines.ensures.place, puts-past c.put_loops.ensures), few-blocks a.axis.now st c.requires, cuttable a.axis.now st c.requires)

pub returns : goal.returns
returns c =
    let a = c.args in
    let ranges = puts_then (puts_then (puts_then c.put_loops.ensures c.put_blocks.ensures) c.put_parts.ensures) c.put_parts-2.ensures in
    let p = puts-first c.new-lines.ensures.bytes c.new-lines.ensures.place (puts_then ranges c.put_line.ensures) in
    let w = put_whole (rw (listed a.axis.now a.before a.after a.store.now c.requires) at p) in
    search rules
