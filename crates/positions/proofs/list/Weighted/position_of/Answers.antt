use Rattle.std.proofs.Common.{arith}
use Rattle.positions.specs.LineLaws.{line-located}
use Rattle.positions.specs.Code.{bound_in}
use Rattle.positions.proofs.list.Weighted.position_of.Goals as goal

pub returns : goal.returns
returns c =
    let s = c.args.self.now in
    let l = s.columns in
    line-located l.froms.now l.pasts.now l.shifts.now s.weights.now (bound_in l) c.args.n c.line-line.result c.in-Some.p c.line-line.ensures
    c.in-Some.ensures (omega arith) (omega arith) c.requires
