use native.Mathlib.Omega.{arith}
use Rattle.reader.specs.Held.{count_held, few-loops}
use Rattle.legality.proofs.Laws.{lasts-next}
use Rattle.legality.proofs.last_destinations.Goals as goal

pub last_destination-requires : goal.last_destination-requires
last_destination-requires c = (c.requires, omega (arith, count_held c.requires))

pub returns : goal.returns
returns c =
    let l = c.loop-k in
    record { long = l.invariant.0; each = λ k u. l.invariant.1 k (omega (arith, count_held c.requires)) }

pub loop-k-preserved : goal.loop-k-preserved
loop-k-preserved c =
    let l = c.loop-k in
    lasts-next c.args.store.now l.lasts l.k c.last_destination.result
    (omega (arith, c.loop-k-test.true, c.loops_in-k-end.ensures, few-loops c.requires)) l.invariant c.last_destination.ensures
