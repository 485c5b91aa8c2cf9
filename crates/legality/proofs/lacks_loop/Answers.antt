use native.Mathlib.Omega.{arith}
use mathlib.Core.Path.{◌∙◌, sym}
use Rattle.legality.proofs.Laws.{left-start, left-next, found-row, left_end}
use Rattle.legality.proofs.lacks_loop.Goals as goal

pub loop-r-init : goal.loop-r-init
loop-r-init c = rw c.start_at-r.ensures (left-start c.requires.0 _ c.args.k c.requires.1.there)

pub returns-then-lacks_row : goal.returns-then-lacks_row
returns-then-lacks_row c =
    let l = c.loop-r in
    found-row c.requires.0 _ c.args.k c.requires.1.there l.r (omega arith) l.invariant (sym c.if-lacks_row.true ∙ c.lacks_row.ensures)

pub loop-r-preserved : goal.loop-r-preserved
loop-r-preserved c =
    let l = c.loop-r in
    left-next c.requires.0 _ c.args.k c.requires.1.there l.r (omega arith) l.invariant (sym c.if-lacks_row.false ∙ c.lacks_row.ensures)

pub returns : goal.returns
returns c =
    let l = c.loop-r in
    left_end c.requires.0 _ c.args.k c.requires.1.there l.r (λ i u v. absurd (omega arith)) l.invariant
