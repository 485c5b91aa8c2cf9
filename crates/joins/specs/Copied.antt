-- What joining writes, as it is copied: left's bytes without its end, and right's without its arrays.
use Rattle.std.specs.Prelude.{ℕ, ◌*◌, ◌-◌, List, ◌++◌, length}
use Rattle.std.proofs.Math.ListN.{take, drop}

-- the end is left's last byte; the arrays are right's first records, of five bytes each
unfoldable pub bytes : List ℕ → List ℕ → ℕ → List ℕ
bytes left right arrays = take (length left - 1) left ++ drop (5 * arrays) right
