-- The numbers of a plan by hand, as bytes: for each loop in loop order its shift and its peel, each an unsigned number of four little-endian bytes.
-- Assumes nothing.
use Rattle.std.specs.Prelude.{ℕ, zero, suc, ◌+◌, ◌*◌, cond, List, [], ◌∷◌, ltb}
use Rattle.records.specs.Bytes.{four}
use Rattle.amounts.specs.declared.Amounts.{Amounts}

-- number n of the bytes
abbrev pub number_at : List ℕ → ℕ → ℕ
number_at bs n = four bs (4 * n)

-- from loop k on, h of each loop below n, and 0 of the others
unfoldable pub filled_from : (left k n : ℕ) → (ℕ → ℕ) → List ℕ
filled_from zero k n h = []
filled_from (suc left) k n h = cond (ltb k n) (h k) 0 ∷ filled_from left (suc k) n h

-- a number for each of sixteen loops: h of those below n, and 0 of the others
abbrev pub filled : ℕ → (ℕ → ℕ) → List ℕ
filled n h = filled_from 16 0 n h

-- the shifts and peels of n loops, where a loop has `stride` numbers: of these its shift has the number `first`, and its peel the next
abbrev pub amounts_in : (stride first n : ℕ) → List ℕ → Amounts
amounts_in stride first n bs = record {
  shifts = filled n (λ k. number_at bs (stride * k + first));
  peels = filled n (λ k. number_at bs (stride * k + first + 1));
}
