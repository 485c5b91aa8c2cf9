use Rattle.amounts.proofs.Laws.{meet-stored}
use Rattle.amounts.proofs.meet.Goals as goal

-- `meet` meets its contract: the bounds as they are stored are those of the table.
pub returns : goal.returns
returns c =
    let p = c.requires in
    meet-stored p.0 c.args.x c.args.y p.1 p.2 _ _ _ _ c.first_at.ensures c.last_at.ensures c.first_at-2.ensures c.last_at-2.ensures _ c.overlaps.ensures
