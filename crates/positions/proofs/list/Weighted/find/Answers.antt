use Rattle.std.proofs.Common.{sym, arith}
use Rattle.lists.proofs.BelowLaws.{below-zero, below-first}
use Rattle.positions.specs.Code.{loops_in, range_in, shift_in, weight_in}
use Rattle.positions.proofs.list.Weighted.find.Goals as goal

pub loop-s-init : goal.loop-s-init
loop-s-init c =
    let s = c.args.self.now in
    let l = s.columns in
    let z = below-zero (loops_in l) (range_in l) (shift_in l) (weight_in s) in (
      record {
        rising = below-first (loops_in l) (range_in l) (shift_in l) (weight_in s) 0 c.args.most c.args.n (omega arith) c.requires.0;
        inside = c.requires.1;
        value = sym z;
        before = omega arith;
        after = c.requires.0;
      },
      omega arith,
    )
