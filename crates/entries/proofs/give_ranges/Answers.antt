use native.Mathlib.Omega.{arith}
use Rattle.reader.specs.Held.{few-loops}
use Rattle.plans.specs.Code.{planned_in}
use Rattle.numbers.specs.AskedLaws.{numbers-short, numbers-put}
use Rattle.entries.specs.Entries.{ranges_of}
use Rattle.entries.proofs.Laws.{ranges-are, ranges-size}
use Rattle.entries.proofs.give_ranges.Goals as goal

pub overflow_mul-pairs : goal.overflow_mul-pairs
overflow_mul-pairs c = omega (arith, c.loops_in-pairs.ensures, few-loops c.requires.0.held)

pub returns-then-out-pairs : goal.returns-then-out-pairs
returns-then-out-pairs c =
    let a = c.args in
    let n = c.loops_in-pairs.ensures in
    let size = ranges-size a.a.now a.store.now c.requires.0 a.phase a.b in
    rw c.short.ensures
    (numbers-short (ranges_of a.phase a.b (planned_in a.a.now a.store.now)) a.out.now _ size (rw n at c.if-out-pairs.true))

pub returns : goal.returns
returns c =
    let a = c.args in
    let n = c.loops_in-pairs.ensures in
    let size = ranges-size a.a.now a.store.now c.requires.0 a.phase a.b in
    let p = rw (ranges-are a.a.now a.store.now c.requires.0 a.phase a.b) at c.write_ranges.ensures in
    numbers-put (ranges_of a.phase a.b (planned_in a.a.now a.store.now)) a.out.now _ size (rw n at c.if-out-pairs.false) p
