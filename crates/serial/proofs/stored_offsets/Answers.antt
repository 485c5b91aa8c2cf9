use native.Mathlib.Omega.{arith}
use Rattle.serial.proofs.Offsets.{stored_next}
use Rattle.serial.proofs.stored_offsets.Goals as goal

pub loop-row-preserved : goal.loop-row-preserved
loop-row-preserved c =
    let a = c.args in
    let l = c.loop-row in
    let h = c.loop-row-test.true in (
      rw c.put_offset.ensures (stored_next a.store.now a.from l.row l.offsets l.invariant.1 l.invariant.0),
      omega (arith, l.invariant.1),
      omega (arith, h),
    )
