-- How large shifts, peels and the threshold can be: what is said of them.
use Rattle.std.specs.Prelude.{ℕ, ◌*◌, ◌≤◌, List, get_or}
use mathlib.Core.List.{Memᴰ as Mem}
use Rattle.model.specs.declared.Reference.{Reference}

-- the number of loop k is at most m times k
abbrev pub Small : ℕ → List ℕ → Type 0
Small m s = (k : ℕ) → get_or s k 0 ≤ m * k

-- no amount is above m
abbrev pub AtMost : {R : Type 0} → ℕ → (R → R → ℕ) → List R → Type 0
AtMost {R} m amount rs = (x y : R) → Mem x rs → Mem y rs → amount x y ≤ m

-- an offset, −255 to 255, is kept as 0 to 510
abbrev pub InRange : List Reference → Type 0
InRange rs = (x : Reference) → Mem x rs → x.offset ≤ 510
