use mathlib.Core.Path.{sym, ◌∙◌}
use Rattle.reader.specs.Store.{table_in}
use Rattle.columns.specs.Columns.{ref_at}
use Rattle.amounts.proofs.Laws.{taken-touching, taken-apart}
use Rattle.amounts.proofs.take_up.Goals as goal

-- `take_up` meets its contract: a pair that can make a dependence raises what it requires, any other leaves the numbers.
pub returns-then-touches : goal.returns-then-touches
returns-then-touches c =
    let a = c.args in
    let t = a.amounts.now in
    rw (← c.reference_at.ensures)
    (taken-touching (table_in a.store.now) _ a.y t.shifts t.peels _ _ a.made.now (c.raise.ensures.shifts_after, c.raise.ensures.peels_after))

pub returns-else-touches : goal.returns-else-touches
returns-else-touches c =
    let a = c.args in
    let t = a.amounts.now in
    taken-apart (table_in a.store.now) (ref_at a.columns.now a.x) a.y t.shifts t.peels a.made.now (sym c.touches.ensures ∙ c.if-touches.false)
