use mathlib.Core.Path.{sym}
use native.Mathlib.Omega.{arith}
use Rattle.legality.proofs.WrittenLaws.{filled_none, filled_next}
use Rattle.legality.proofs.read_amounts.Goals as goal

pub loop-k-init : goal.loop-k-init
loop-k-init c = (sym (filled_none _), sym (filled_none _))

pub loop-k-preserved : goal.loop-k-preserved
loop-k-preserved c =
    let l = c.loop-k in (
      rw l.invariant.0 (filled_next _ l.k _ (omega arith) c.four_at.ensures),
      rw l.invariant.1 (filled_next _ l.k _ (omega arith) c.four_at-in-loop-k.ensures),
    )
