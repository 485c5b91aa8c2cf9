use Rattle.positions.specs.Search.{ones_below, ones-found}
use Rattle.positions.proofs.fused_nth.Goals as goal

-- with weights of 1 the search counts iterations
pub position_of-at-requires : goal.position_of-at-requires
position_of-at-requires c =
    ones_below c.args.froms.now c.args.pasts.now c.args.shifts.now c.requires.froms_len_bound.0 c.args.n c.requires.n_in_bounds

pub returns : goal.returns
returns c =
    ones-found c.args.froms.now c.args.pasts.now c.args.shifts.now c.requires.froms_len_bound.0 c.args.n c.position_of-at.result
    c.nth_at_sum.result c.position_of-at.ensures c.nth_at_sum.ensures
