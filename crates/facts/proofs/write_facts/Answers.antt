use Rattle.std.proofs.Common.{rules}
use Rattle.text.specs.Puts.{puts-first}
use Rattle.facts.proofs.Laws.{facts-put}
use Rattle.facts.proofs.write_facts.Goals as goal

pub returns : goal.returns
returns c =
    let a = c.args in
    let n = c.arrays_in-arrays.ensures in
    let m = c.loops_in-loops.ensures in
    let p = rw m at (rw n at c.put_counts.ensures) in
    let q = rw n at c.put_arrays.ensures in
    let r = rw m at c.put_bounds.ensures in
    let w = puts-first c.new-facts.ensures.bytes c.new-facts.ensures.place (facts-put a.table.now.store.now a.table.now.bases.now c.requires.0 c.requires.1 p q r) in
    search rules
