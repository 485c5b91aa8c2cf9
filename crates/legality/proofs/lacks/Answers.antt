use Rattle.reader.specs.Store.{table_in}
use Rattle.legality.proofs.Laws.{lacking-met}
use mathlib.Core.Path.{◌∙◌, sym}
use Rattle.legality.proofs.lacks.Goals as goal

pub returns-then-misses : goal.returns-then-misses
returns-then-misses c =
    let a = c.args in
    let p = c.requires in
    lacking-met (table_in a.store.now) a.a.now a.x a.y p.reference_fits.2 p.reference_fits.3 _ (sym c.misses.ensures ∙ c.if-misses.true) c.meet.ensures
