use mathlib.Core.Path.{◌∙◌}
use Rattle.iterations.proofs.Laws.{rows_start, rows-able, rows_next, rows_end, first-able, first_next, rows-again}
use borrow.Author.Rules.{rules}
use Rattle.iterations.proofs.run_rows.Goals as goal

pub returns-then-past-from : goal.returns-then-past-from
returns-then-past-from c =
    let a = c.args in
    let p = c.requires in
    let l = rows_start a.table.now.store.now a.table.now.bases.now a.from a.past a.i a.memory.now p.past_bound.2 p.runnable in
    rows_end a.table.now.store.now a.table.now.bases.now a.from a.past a.i a.memory.now a.from a.memory.now l c.if-past-from.true

pub run_statement-row-requires-clause-performable : goal.run_statement-row-requires-clause-performable
run_statement-row-requires-clause-performable c =
    let a = c.args in
    let p = c.requires in
    let h = c.if-past-from.false in
    first-able a.table.now.store.now a.table.now.bases.now a.from a.past a.i a.memory.now p.past_bound.2 p.runnable h

pub loop-row-init : goal.loop-row-init
loop-row-init c =
    let a = c.args in
    let p = c.requires in
    let s = c.run_statement-row in
    rows-again a.table.now.store.now a.table.now.bases.now a.from a.past a.i a.memory.now s.result s.new.memory
    (first_next a.table.now.store.now a.table.now.bases.now a.from a.past a.i a.memory.now p.past_bound.2 p.runnable c.if-past-from.false
    s.result s.ensures.stopped s.new.memory (search rules) s.ensures.by_index)

pub run_statement-row-requires-in-loop-row-clause-performable : goal.run_statement-row-requires-in-loop-row-clause-performable
run_statement-row-requires-in-loop-row-clause-performable c =
    let a = c.args in
    let p = c.requires in
    let l = c.loop-row in
    let s = c.run_statement-row in
    rows-able a.table.now.store.now a.table.now.bases.now s.result a.past a.i s.new.memory l.row l.memory l.invariant c.loop-row-test.true

pub loop-row-preserved : goal.loop-row-preserved
loop-row-preserved c =
    let a = c.args in
    let l = c.loop-row in
    let s = c.run_statement-row in
    let t = c.run_statement-row-in-loop-row in
    rows_next a.table.now.store.now a.table.now.bases.now s.result a.past a.i s.new.memory l.row l.memory l.invariant
    c.loop-row-test.true t.result t.ensures.stopped t.new.memory (search rules) t.ensures.by_index

pub returns : goal.returns
returns c =
    let a = c.args in
    let p = c.requires in
    let l = c.loop-row in
    let s = c.run_statement-row in
    let first =
    first_next a.table.now.store.now a.table.now.bases.now a.from a.past a.i a.memory.now p.past_bound.2 p.runnable c.if-past-from.false
    s.result s.ensures.stopped s.new.memory (search rules) s.ensures.by_index in
    λ ns b. rows_end a.table.now.store.now a.table.now.bases.now s.result a.past a.i s.new.memory l.row l.memory l.invariant
    c.loop-row-test.false ns b ∙ first.rest ns b
