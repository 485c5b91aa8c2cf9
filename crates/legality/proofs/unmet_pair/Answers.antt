use Rattle.legality.proofs.Laws.{pair-earlier, pair-later}
use Rattle.legality.proofs.unmet_pair.Goals as goal

pub returns-then-lacks_destinations : goal.returns-then-lacks_destinations
returns-then-lacks_destinations c =
    let a = c.args in
    let p = c.requires.held in
    rw c.if-lacks_destinations.true (pair-earlier p.0 a.a.now a.j a.k p.1 p.2 _ c.lacks_destinations.ensures c.if-lacks_destinations.true)

pub returns-else-lacks_destinations : goal.returns-else-lacks_destinations
returns-else-lacks_destinations c =
    let a = c.args in
    let p = c.requires.held in
    pair-later p.0 a.a.now a.j a.k p.1 p.2 _ _ c.lacks_destinations.ensures c.if-lacks_destinations.false c.lacks_destinations-else-lacks_destinations.ensures
