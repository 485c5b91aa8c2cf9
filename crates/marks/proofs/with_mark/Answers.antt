use mathlib.Core.Path.{◌≡◌, ◌∙◌, ap}
use mathlib.Core.Bool.{Bool, ◌||◌}
use Prim.Native.Nat.{ℕ, ◌*◌, ◌%◌, ◌^◌}
use native.Mathlib.Nat.{one-mul}
use native.Mathlib.Omega.{arith}
use lib.Pow.{shl_exact}
use lib.Dec.{lit<}
use Rattle.marks.specs.Marks.{marked}
use Rattle.marks.proofs.Laws.{marked-or, marked-one}
use Rattle.marks.proofs.with_mark.Goals as goal

pub returns : goal.returns
returns c p =
    let m = c.args.m in
    let q = c.args.q in
    let shifted : 1 * 2 ^ q % 65536 ≡ 2 ^ q = shl_exact 1 q 16 (lit< tt) (omega arith) ∙ one-mul (2 ^ q) in
    marked-or m (1 * 2 ^ q % 65536) p ∙ ap (λ (b : Bool). marked m p || b) (ap (λ (n : ℕ). marked n p) shifted ∙ marked-one q p)
