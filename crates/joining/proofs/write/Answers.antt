use native.Mathlib.Omega.{arith}
use mathlib.Core.Path.{◌≡◌, refl}
use mathlib.Core.List.{List}
use Prim.Native.Nat.{ℕ, ◌-◌, ◌*◌, ◌+◌}
use lib.ListN.{length, take, drop, length-drop}
use lib.Seq.{length-take-le, take_all}
use Rattle.joining.proofs.Answers.{too_long_lem, wrote}
use Rattle.joining.proofs.write.Goals as goal

pub returns-then-out-count : goal.returns-then-out-count
returns-then-out-count c =
    let a = c.args in
    let n = 5 * a.arrays in
    rw c.short.ensures
    (too_long_lem a.left.now a.right.now a.out.now a.arrays c.requires.0
    (omega (
      arith,
      c.if-out-count.true,
      length-take-le (length a.left.now - 1) a.left.now (omega arith),
      length-take-le (length a.right.now - n) (drop n a.right.now) (omega (arith, length-drop n a.right.now)),
    )))

pub returns : goal.returns
returns c =
    let a = c.args in
    let r = a.right.now in
    let n = 5 * a.arrays in
    let xs : List ℕ = take (length a.left.now - 1) a.left.now in
    let ys : List ℕ = take (length r - n) (drop n r) in
    let all : ys ≡ drop n r = take_all (length r - n) (drop n r) (omega (arith, length-drop n r)) in
    rw (c.copy_from_slice.ensures.after, c.copy_from_slice-2.ensures.after)
    (wrote a.left.now r a.out.now a.arrays c.requires.0 xs ys (length xs + length ys - length xs)
    (omega (arith, c.if-out-count.false, length-take-le (length a.left.now - 1) a.left.now (omega arith), length-take-le (length r - n) (drop n r) (omega (arith, length-drop n r)))) refl all (omega arith))
