use mathlib.Core.Path.{◌∙◌}
use Rattle.plain.proofs.Laws.{held_asks, held-unlike, held-run}
use Rattle.plain.proofs.run_table.Goals as goal

pub returns-then-memory-total : goal.returns-then-memory-total
returns-then-memory-total c =
    let b = c.bases_of-bases in
    let (e, f) = held-unlike c.args.store.now c.requires b.result.firsts b.ensures c.args.memory.now (rw c.total.ensures at c.if-memory-total.true) in
    rw c.met.ensures record { value = e; memory_after = f }

pub run_loops-requires : goal.run_loops-requires
run_loops-requires c =
    let b = c.bases_of-bases in
    held_asks c.args.store.now c.requires b.result.firsts b.ensures c.args.memory.now (c.if-memory-total.false ∙ c.total.ensures)

pub returns : goal.returns
returns c =
    let b = c.bases_of-bases in
    let (e, f) = held-run c.args.store.now c.requires b.result.firsts b.ensures c.args.memory.now (c.if-memory-total.false ∙ c.total.ensures) _
    c.run_loops.ensures in
    record { value = e; memory_after = f }
