use mathlib.Core.Path.{◌≡◌}
use lib.ListN.{length}
use native.Mathlib.Omega.{arith}
use borrow.Author.Rules.{rules}
use Rattle.bodies.proofs.Work.{rows_start, rows-ready, rows_next, rows-met, rows_end}
use Rattle.bodies.proofs.Waiting.work_rows.Goals as goal

pub loop-row-init : goal.loop-row-init
loop-row-init c =
    let a = c.args in
    let p = c.requires in
    let long : length a.self.values ≡ 8 = search rules in
    rows_start a.table.now.bases.now a.i a.memory.now a.table.now.store.now a.from a.past a.self long p.from_le_past.0 p.from_le_past.3 p.works
    p.reads_within

pub work_row-requires : goal.work_row-requires
work_row-requires c =
    let a = c.args in
    let l = c.loop-row in record {
      row_bound = (omega (arith, c.requires.from_le_past.1, c.loop-row-test.true), c.requires.from_le_past.2, l.invariant.long);
      ready =
          rows-ready a.table.now.bases.now a.i a.memory.now a.table.now.store.now a.from a.past a.self l.row (record { values = l.values; count = l.count }) l.invariant
          c.loop-row-test.true;
    }

pub loop-row-preserved : goal.loop-row-preserved
loop-row-preserved c =
    let a = c.args in
    let l = c.loop-row in
    let w = c.work_row in
    rows_next a.table.now.bases.now a.i a.memory.now a.table.now.store.now a.from a.past a.self l.row (record { values = l.values; count = l.count }) l.invariant
    c.loop-row-test.true w.new.vs w.result w.ensures c.in-Some.next c.in-Some.is

pub returns-in-None : goal.returns-in-None
returns-in-None c =
    let a = c.args in
    let l = c.loop-row in
    let w = c.work_row in
    let both = rows-met a.table.now.bases.now a.i a.memory.now a.table.now.store.now a.from a.past a.self l.row (record { values = l.values; count = l.count }) l.invariant
    c.loop-row-test.true w.new.vs w.result w.ensures c.in-None.is in
    record { count_value = both.0; by_index = both.1 }

pub returns : goal.returns
returns c =
    let a = c.args in
    let l = c.loop-row in
    let both = rows_end a.table.now.bases.now a.i a.memory.now a.table.now.store.now a.from a.past a.self l.row (record { values = l.values; count = l.count }) l.invariant
    c.loop-row-test.false in
    record { count_value = both.0; by_index = both.1 }
