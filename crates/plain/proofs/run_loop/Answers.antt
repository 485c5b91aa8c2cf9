use native.Mathlib.Numerals.{add-one}
use Rattle.plain.proofs.Laws.{loop-asks, loop-run}
use Rattle.plain.proofs.run_loop.Goals as goal

pub run_range-requires : goal.run_range-requires
run_range-requires c =
    let a = c.args in
    let p = c.requires in
    let both = loop-asks a.table.now.store.now a.table.now.bases.now a.memory.now a.number p.0 p.1 in
    rw (c.last_at-last.ensures, c.first_at-first.ensures, c.start_at-past.ensures, c.start_at-from.ensures, add-one a.number) record { past_bound = both.0; by_index = both.1 }

pub returns : goal.returns
returns c =
    let a = c.args in
    let p = c.requires in
    loop-run a.table.now.store.now a.table.now.bases.now a.memory.now a.number p.0 p.1 _
    (rw (c.last_at-last.ensures, c.first_at-first.ensures, c.start_at-past.ensures, c.start_at-from.ensures, add-one a.number)
    at c.run_range.ensures)
