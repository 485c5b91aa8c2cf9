use Rattle.std.proofs.Common.{◌≡◌, ◌+◌, length}
use Rattle.order.specs.Sequences.{joined}
use Rattle.lists.specs.Lists.{over, ranges}
use Rattle.positions.proofs.peeled_nth.Given as goal

-- of the n that come first, the first k loops have all but `left`
abbrev pub invariant-loop-k : goal.invariant-loop-k
invariant-loop-k l = length (joined l.k (over (ranges l.froms l.pasts))) + l.left ≡ l.n
