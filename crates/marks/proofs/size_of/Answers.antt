use Prim.Native.Nat.{◌/◌, ◌^◌, ◌<◌}
use native.Mathlib.Nat.{div-one}
use Rattle.marks.specs.Marks.{marked}
use Rattle.marks.specs.MarkLaws.{size-most}
use Rattle.marks.proofs.Laws.{size-from}
use Rattle.marks.proofs.size_of.Goals as goal

pub returns : goal.returns
returns c =
    let m = c.args.m in
    let small : m / 2 ^ 0 < 2 ^ 16 = rw div-one c.ranges.m.fits in
    let e = rw div-one at (size-from 16 m 0 small) in
    (e, rw e (size-most (marked m)))
