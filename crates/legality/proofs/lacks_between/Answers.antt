use Rattle.reader.specs.Store.{table_in}
use Rattle.legality.proofs.Laws.{touch-swap, between_first, between-second}
use mathlib.Core.Path.{◌∙◌, sym}
use native.Mathlib.Omega.{arith}
use Rattle.legality.proofs.lacks_between.Goals as goal

pub returns-then-x-y : goal.returns-then-x-y
returns-then-x-y c =
    let a = c.args in
    between_first (table_in a.store.now) a.a.now a.x a.y _ c.if-x-y.true c.lacks.ensures

pub lacks-requires-else-x-y-clause-reference_fits : goal.lacks-requires-else-x-y-clause-reference_fits
lacks-requires-else-x-y-clause-reference_fits c =
    let p = c.requires in
    let a = c.args in
    (p.reference_fits.1, p.reference_fits.0, omega (arith, c.if-x-y.false, p.reference_fits.2), sym (touch-swap a.x a.y) ∙ p.reference_fits.3)

pub returns-else-x-y : goal.returns-else-x-y
returns-else-x-y c =
    let a = c.args in
    let p = c.requires in
    between-second (table_in a.store.now) a.a.now a.x a.y _ (omega (arith, c.if-x-y.false, p.reference_fits.2)) c.lacks-else-x-y.ensures
