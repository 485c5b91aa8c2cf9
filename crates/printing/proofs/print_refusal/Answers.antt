use native.Mathlib.Omega.{arith}
use Rattle.printing.proofs.Laws.{no_room, room}
use Rattle.printing.proofs.print_refusal.Goals as goal

pub returns-then-out-size : goal.returns-then-out-size
returns-then-out-size c =
    let first = c.write_refusal-size.ensures in
    record {
      gives = rw c.short.ensures (no_room _ c.args.out.now first c.if-out-size.true);
      place_len_bound = omega (arith, first.size, first.few);
    }

pub returns : goal.returns
returns c =
    let first = c.write_refusal-size.ensures in
    record {
      gives = room _ c.args.out.now first c.write_refusal.ensures c.if-out-size.false;
      place_len_bound = omega (arith, first.size, first.few);
    }
