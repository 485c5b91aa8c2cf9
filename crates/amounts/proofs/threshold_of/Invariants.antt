use mathlib.Core.Path.{◌≡◌}
use Rattle.chains.specs.Maximum.{maximum_below}
use Rattle.chains.specs.Threshold.{sum_at}
use Rattle.amounts.proofs.threshold_of.Given as goal

-- `threshold_of` meets its contract. The invariant: t is the largest sum of the loops below k.
abbrev pub invariant-loop-k : goal.invariant-loop-k
invariant-loop-k l = l.t ≡ maximum_below l.k (sum_at l.a.shifts l.a.peels)
