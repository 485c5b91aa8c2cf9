use native.Mathlib.Omega.{arith}
use borrow.Author.Rules.{rules}
use Rattle.text.specs.Puts.{puts-first}
use Rattle.ranges.specs.Code.{list_of}
use Rattle.numbers.specs.Pairs.{rowed-none, rowed-next, rowed-end}
use Rattle.entries.proofs.Laws.{list_put}
use Rattle.entries.proofs.write_list.Goals as goal

pub loop-n-init : goal.loop-n-init
loop-n-init c = rowed-none

pub nth_of-x-requires : goal.nth_of-x-requires
nth_of-x-requires c = (c.requires.0, omega (arith, c.requires.1.sized, c.loop-n-test.true))

pub loop-n-preserved : goal.loop-n-preserved
loop-n-preserved c = rowed-next c.loop-n.invariant c.loop-n-test.true (rw c.nth_of-x.ensures at c.put_pair.ensures)

pub returns : goal.returns
returns c =
    let a = c.args in
    let w = puts-first c.new-row.ensures.bytes c.new-row.ensures.place
    (list_put a.size (list_of a.ranges.now a.loops a.phase) c.requires.1.sized (rowed-end c.loop-n.invariant c.loop-n-test.false)) in
    search rules
