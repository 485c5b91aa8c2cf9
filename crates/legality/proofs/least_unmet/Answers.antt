use mathlib.Core.Path.{◌∙◌, sym}
use native.Mathlib.Omega.{arith}
use Rattle.reader.specs.Held.{count_held}
use Rattle.legality.proofs.Laws.{from_next, all_found, all_none}
use Rattle.legality.proofs.least_unmet.Goals as goal

pub lowest_later-requires : goal.lowest_later-requires
lowest_later-requires c =
    let p = c.requires in
    record { held = (p, omega (arith, count_held p)); lasts = c.last_destinations-lasts.ensures }

pub returns-in-Some : goal.returns-in-Some
returns-in-Some c =
    let l = c.loop-j in
    all_found c.requires c.args.a.now l.j _ (omega (arith, count_held c.requires)) l.invariant c.in-Some.ensures

pub loop-j-preserved : goal.loop-j-preserved
loop-j-preserved c = let l = c.loop-j in from_next c.requires c.args.a.now l.j l.invariant (sym c.in_default.is ∙ c.lowest_later.ensures)

pub returns : goal.returns
returns c = let l = c.loop-j in all_none c.requires c.args.a.now l.j (omega (arith, count_held c.requires)) l.invariant
