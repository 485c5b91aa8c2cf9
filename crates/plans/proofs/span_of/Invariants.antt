use mathlib.Core.Path.{◌≡◌}
use Prim.Native.Nat.{◌<◌, ◌^◌}
use Rattle.reader.specs.Store.{first_at, last_at}
use Rattle.blocks.specs.Sums.{least, largest}
use Rattle.plans.proofs.span_of.Given as goal

-- the walk has seen the first k loops
abbrev pub invariant-loop-k : goal.invariant-loop-k
invariant-loop-k l =
    (l.low ≡ least l.k (first_at l.store)) × (l.high ≡ largest l.k (last_at l.store)) × (l.high < 2 ^ 31)
