use Prim.Native.Nat.{◌+◌}
use native.Mathlib.Omega.{arith}
use borrow.Author.Rules.{rules}
use Rattle.plain.proofs.Laws.{range-asks, range-next, range-end}
use Rattle.plain.proofs.run_range.Goals as goal

pub run_rows-requires-clause-runnable : goal.run_rows-requires-clause-runnable
run_rows-requires-clause-runnable c =
    let a = c.args in
    let l = c.loop-i in
    range-asks a.table.now.store.now a.table.now.bases.now a.from a.past a.first a.last a.memory.now l.i l.memory l.invariant (omega (arith, c.loop-i-test.true))
    c.requires.by_index

pub loop-i-preserved : goal.loop-i-preserved
loop-i-preserved c =
    let a = c.args in
    let l = c.loop-i in
    range-next a.table.now.store.now a.table.now.bases.now a.from a.past a.first a.last a.memory.now l.i l.memory l.invariant
    (omega (arith, c.loop-i-test.true)) c.run_rows.new.memory (search rules) c.run_rows.ensures

pub returns : goal.returns
returns c =
    let a = c.args in
    let l = c.loop-i in
    range-end a.table.now.store.now a.table.now.bases.now a.from a.past a.first a.last a.memory.now l.i l.memory l.invariant
    (omega (arith, c.loop-i-test.false))

-- after the last iteration
pub returns-2 : goal.returns-2
returns-2 c =
    let a = c.args in
    let l = c.loop-i in
    let left =
    range-next a.table.now.store.now a.table.now.bases.now a.from a.past a.first a.last a.memory.now l.i l.memory l.invariant
    (omega (arith, c.loop-i-test.true)) c.run_rows.new.memory (search rules) c.run_rows.ensures in
    range-end a.table.now.store.now a.table.now.bases.now a.from a.past a.first a.last a.memory.now (l.i + 1) c.run_rows.new.memory left (omega arith)
