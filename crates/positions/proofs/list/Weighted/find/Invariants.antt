use Rattle.std.proofs.Common.{◌≤◌, ◌-◌}
use Rattle.positions.specs.Code.{BracketIn}
use Rattle.positions.proofs.list.Weighted.find.Given as goal

-- the bracket closes until it holds one sum
abbrev pub invariant-loop-s : goal.invariant-loop-s
invariant-loop-s l = BracketIn l.self l.n l.s × (l.s.high ≤ l.most)

abbrev pub decreases-loop-s : goal.decreases-loop-s
decreases-loop-s l = l.s.high - l.s.low
