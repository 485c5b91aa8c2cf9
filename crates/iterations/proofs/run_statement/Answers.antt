use native.Mathlib.Numerals.{add-one}
use mathlib.Core.List.{[]}
use Prim.Native.Nat.{suc, ◌-◌}
use Rattle.reader.specs.Store.{statement_at}
use Rattle.iterations.proofs.Laws.{statement-stored}
use Rattle.iterations.proofs.run_statement.Goals as goal

pub returns-clause-by_index : goal.returns-clause-by_index
returns-clause-by_index c =
    let a = c.args in
    let value = rw (add-one a.row) at c.value_of-x.ensures.by_index in
    let y = rw (c.value_at.ensures, c.array_at.ensures) at c.store_in.ensures in
    statement-stored a.table.now.bases.now a.i (statement_at a.table.now.store.now a.row (a.past - suc a.row) []) a.memory.now _
    c.value_of-x.result.value c.requires.performable.stores.0 value y

pub returns-clause-stopped : goal.returns-clause-stopped
returns-clause-stopped c = rw (add-one c.args.row) at c.value_of-x.ensures.stopped
