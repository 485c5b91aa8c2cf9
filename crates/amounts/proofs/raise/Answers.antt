use mathlib.Core.Path.{sym, ◌∙◌, refl}
use Rattle.reader.specs.Store.{table_in}
use Rattle.chains.specs.Dependence.{backward, forward}
use Rattle.amounts.proofs.Laws.{raised-met, raised-apart}
use Rattle.amounts.proofs.raise.Goals as goal

-- `raise` meets its contract: where the two meet, the later loop's numbers alone change.
pub returns-then-meet : goal.returns-then-meet
returns-then-meet c =
    let a = c.args in
    let p = c.requires.number_lt_number in
    let t = table_in a.store.now in
    let m = sym c.meet.ensures ∙ c.if-meet.true in record {
      shifts_after = raised-met t backward a.x a.y a.amounts.now.shifts p.0 p.1 _ _ _ m refl c.saturating_sub.ensures c.max.ensures;
      peels_after = raised-met t forward a.x a.y a.amounts.now.peels p.0 p.1 _ _ _ m refl c.saturating_sub-then-meet.ensures c.max-then-meet.ensures;
    }

pub returns-else-meet : goal.returns-else-meet
returns-else-meet c =
    let a = c.args in
    let p = c.requires.number_lt_number in
    let t = table_in a.store.now in
    let m = sym c.meet.ensures ∙ c.if-meet.false in record {
      shifts_after = raised-apart t backward a.x a.y a.amounts.now.shifts p.0 p.1 m;
      peels_after = raised-apart t forward a.x a.y a.amounts.now.peels p.0 p.1 m;
    }
