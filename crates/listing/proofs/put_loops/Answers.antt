use native.Mathlib.Omega.{arith}
use Rattle.listing.proofs.Laws.{lines_start, lines_next}
use Rattle.listing.proofs.put_loops.Goals as goal

pub loop-k-init : goal.loop-k-init
loop-k-init c = lines_start

pub loop-k-preserved : goal.loop-k-preserved
loop-k-preserved c =
    let n = c.loops_in-k-end.ensures in
    lines_next c.loop-k.invariant (omega (arith, c.loop-k-test.true)) c.put_line.ensures
