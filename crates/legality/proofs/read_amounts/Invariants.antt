use mathlib.Core.Path.{◌≡◌}
use Prim.Native.Nat.{◌+◌, ◌*◌}
use Rattle.legality.specs.Written.{number_at, filled}
use Rattle.legality.proofs.read_amounts.Given as goal

-- `read_amounts` meets its contract. The invariant: the numbers of the loops below k are read.
abbrev pub invariant-loop-k : goal.invariant-loop-k
invariant-loop-k l =
    (l.shifts ≡ filled l.k (λ i. number_at l.bytes (l.stride * i + l.first))) × (l.peels ≡ filled l.k (λ i. number_at l.bytes (l.stride * i + l.first + 1)))
