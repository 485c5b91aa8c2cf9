use Rattle.std.proofs.Common.{◌∙◌, arith}
use Rattle.positions.specs.Search.{bound_all}
use Rattle.positions.specs.Code.{loops_in, range_in, shift_in}
use Rattle.positions.proofs.list.Columns.sum_bound.Goals as goal

pub returns : goal.returns
returns c =
    let s = c.args.self.now in
    (c.loop-k.invariant.1 ∙ bound_all (loops_in s) (range_in s) (shift_in s) (shift_in s) c.loop-k.k (omega arith) (omega arith), omega arith)
