use Rattle.std.proofs.Common.{arith}
use Rattle.positions.specs.LineLaws.{line-next, line-end}
use Rattle.positions.specs.Code.{loops_in, range_in, shift_in, weight_in}
use Rattle.positions.proofs.list.Weighted.line.Goals as goal

pub loop-k-preserved : goal.loop-k-preserved
loop-k-preserved c =
    let s = c.args.self.now in
    let l = s.columns in
    let e = rw c.range.ensures at c.with-l.ensures in (
      omega (arith, e.slope),
      omega (arith, e.offset),
      line-next (range_in l) (shift_in l) (weight_in s) c.loop-k.l c.with-l.result c.loop-k.k e c.loop-k.invariant.2,
    )

pub returns : goal.returns
returns c =
    let s = c.args.self.now in
    let l = s.columns in record {
      count = line-end (loops_in l) (range_in l) (shift_in l) (weight_in s) c.loop-k.l c.loop-k.k (omega arith) (omega arith) c.loop-k.invariant.2;
      small = omega (arith, s.sized.loops);
    }
