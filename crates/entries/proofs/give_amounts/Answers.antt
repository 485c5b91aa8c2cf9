use native.Mathlib.Omega.{arith}
use Rattle.reader.specs.Store.{table_in}
use Rattle.reader.specs.Held.{few-loops}
use Rattle.entries.specs.Entries.{amounts_of}
use Rattle.numbers.specs.AskedLaws.{numbers-short, numbers-put}
use Rattle.entries.proofs.Laws.{amounts-are, amounts-size}
use Rattle.entries.proofs.give_amounts.Goals as goal

pub returns-then-out-loops : goal.returns-then-out-loops
returns-then-out-loops c =
    let a = c.args in
    let size = amounts-size a.store.now c.requires _ c.loops_in-loops.ensures in
    rw c.short.ensures (numbers-short (amounts_of (table_in a.store.now)) a.out.now _ size c.if-out-loops.true)

pub write_amounts-requires : goal.write_amounts-requires
write_amounts-requires c = omega (arith, c.loops_in-loops.ensures, few-loops c.requires)

pub returns : goal.returns
returns c =
    let a = c.args in
    let e = c.loops_in-loops.ensures in
    let m = c.amounts_of-a.ensures in
    let size = amounts-size a.store.now c.requires _ e in
    let p = rw (amounts-are a.store.now _ _ c.requires m.shifts_value m.peels_value _ e) at c.write_amounts.ensures in
    numbers-put (amounts_of (table_in a.store.now)) a.out.now _ size c.if-out-loops.false p
