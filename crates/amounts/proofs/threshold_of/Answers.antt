use mathlib.Core.Path.{◌≡◌, refl}
use native.Mathlib.Omega.{arith}
use Rattle.chains.specs.Maximum.{maximum_below}
use Rattle.chains.specs.MaximumLaws.{maximum_below-next}
use Rattle.chains.specs.Threshold.{threshold}
use Rattle.amounts.proofs.threshold_of.Goals as goal

pub loop-k-init : goal.loop-k-init
unfolding maximum_below
loop-k-init c = refl

pub loop-k-preserved : goal.loop-k-preserved
loop-k-preserved c = maximum_below-next _ _ _ _ c.loop-k.invariant c.max-t.ensures

pub returns : goal.returns
unfolding threshold
returns c = let e : c.loop-k.k ≡ 16 = omega arith in rw e at c.loop-k.invariant
