use Rattle.std.proofs.Common.{length, sym, ap, arith}
use Rattle.lists.proofs.Order.{loop-at-in, loop-at-early, loop-at-late}
use Rattle.positions.proofs.held.Goals as goal
use Rattle.positions.proofs.held.Goals.{else-from-t-via-then-from-t+else-t-past, else-from-t-via-else-from-t}

pub returns-then-t-past : goal.returns-then-t-past
returns-then-t-past c = λ k. sym (ap length (loop-at-in c.args.r c.args.shift c.args.t k (omega arith) (omega arith)))

pub returns-else-from-t : goal.returns-else-from-t
returns-else-from-t c =
    elim c.else-from-t.branch [
      | else-from-t-via-then-from-t+else-t-past w ↦ λ k. sym (ap length (loop-at-late c.args.r c.args.shift c.args.t k (omega arith)))
      | else-from-t-via-else-from-t w ↦ λ k. sym (ap length (loop-at-early c.args.r c.args.shift c.args.t k (omega arith)))
    ]
