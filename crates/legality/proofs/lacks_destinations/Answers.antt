use Prim.Native.Nat.{◌+◌}
use native.Mathlib.Omega.{arith}
use mathlib.Core.Path.{◌∙◌, sym}
use Rattle.legality.proofs.Laws.{left-start, left-next, found-row, left_end, up-to-last, past-last}
use Rattle.legality.proofs.lacks_destinations.Goals as goal

pub loop-r-init : goal.loop-r-init
loop-r-init c = rw c.start_at-r.ensures (left-start c.requires.held _ c.args.j c.requires.j_bound.0)

pub lacks_destination-requires : goal.lacks_destination-requires
lacks_destination-requires c =
    let p = c.requires in
    record { held = p.held; j_bound = (p.j_bound.0, up-to-last c.args.store.now c.args.j c.args.last c.loop-r.r p.j_bound.1 (omega arith), p.j_bound.2, p.j_bound.3) }

pub returns-then-lacks_destination : goal.returns-then-lacks_destination
returns-then-lacks_destination c =
    let a = c.args in
    let l = c.loop-r in
    found-row c.requires.held _ a.j c.requires.j_bound.0 l.r (up-to-last a.store.now a.j a.last l.r c.requires.j_bound.1 (omega arith)) l.invariant
    (sym c.if-lacks_destination.true ∙ c.lacks_destination.ensures)

pub loop-r-preserved : goal.loop-r-preserved
loop-r-preserved c =
    let a = c.args in
    let l = c.loop-r in
    left-next c.requires.held _ a.j c.requires.j_bound.0 l.r (up-to-last a.store.now a.j a.last l.r c.requires.j_bound.1 (omega arith)) l.invariant
    (sym c.if-lacks_destination.false ∙ c.lacks_destination.ensures)

pub returns-else-lacks_destination : goal.returns-else-lacks_destination
returns-else-lacks_destination c =
    let a = c.args in
    let l = c.loop-r in
    let p = c.requires in
    left_end p.held _ a.j p.j_bound.0 (l.r + 1) (past-last a.store.now a.a.now a.j a.k a.last (l.r + 1) p.j_bound.1 (omega arith))
    (left-next p.held _ a.j p.j_bound.0 l.r (up-to-last a.store.now a.j a.last l.r p.j_bound.1 (omega arith)) l.invariant
    (sym c.if-lacks_destination.false ∙ c.lacks_destination.ensures))
