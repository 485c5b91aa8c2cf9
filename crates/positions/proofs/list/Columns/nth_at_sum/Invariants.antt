use Rattle.std.proofs.Common.{◌≡◌, ◌+◌, length}
use Rattle.order.specs.Sequences.{joined}
use Rattle.lists.specs.Lists.{here}
use Rattle.positions.specs.Code.{range_in, shift_in}
use Rattle.positions.proofs.list.Columns.nth_at_sum.Given as goal

-- of the n that come first, the first k loops have all but `left`
abbrev pub invariant-loop-k : goal.invariant-loop-k
invariant-loop-k l = length (joined l.k (here (range_in l.self) (shift_in l.self) l.t)) + l.left ≡ l.n
