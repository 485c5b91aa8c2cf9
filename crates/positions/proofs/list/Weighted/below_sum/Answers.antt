use Rattle.std.proofs.Common.{◌∙◌, arith}
use Rattle.positions.specs.Search.{below_all}
use Rattle.positions.specs.Code.{loops_in, range_in, shift_in, weight_in}
use Rattle.positions.proofs.list.Weighted.below_sum.Goals as goal

pub returns : goal.returns
returns c =
    let s = c.args.self.now in
    let l = s.columns in (
      c.loop-k.invariant.1 ∙ below_all (loops_in l) (range_in l) (shift_in l) (weight_in s) c.args.t c.loop-k.k (omega arith) (omega arith),
      omega (arith, s.sized.loops),
    )
