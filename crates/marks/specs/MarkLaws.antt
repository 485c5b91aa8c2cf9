-- Laws of sets of marks.
use Rattle.std.specs.Prelude.{ℕ, zero, suc, ◌%◌, ◌^◌, ◌≤◌, ◌≡◌, Bool, true, false, cond, eqb}
use Rattle.std.proofs.Math.Nat.{zero-div}
use Rattle.std.proofs.Common.{arith, ap}
use Rattle.std.proofs.Math.Path.{fun_ext}
use Rattle.marks.specs.Marks.{Marks, count_from, size, marked}

one-or-none : (b : Bool) → cond b 1 0 ≤ 1
one-or-none true = omega arith
one-or-none false = omega arith

count_most : (s : Marks) (q n : ℕ) → count_from s q n ≤ n
unfolding count_from
count_most s q zero = omega arith
count_most s q (suc n) = omega (arith, one-or-none (s q), count_most s (suc q) n)

pub size-most : (s : Marks) → size s ≤ 16
size-most s = count_most s _ _

-- two sets with the same marks have one size
pub size_same : (s z : Marks) → ((q : ℕ) → s q ≡ z q) → size s ≡ size z
size_same s z e = ap size (fun_ext e)

-- no mark is in the mask 0
pub none-marked : (q : ℕ) → marked 0 q ≡ false
unfolding marked
none-marked q = ap (λ (n : ℕ). eqb (n % 2) 1) (zero-div (2 ^ q))
