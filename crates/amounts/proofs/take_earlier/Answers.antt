use Prim.Native.Nat.{◌<◌}
use native.Mathlib.Omega.{arith}
use Rattle.reader.specs.Store.{table_in}
use Rattle.amounts.specs.Walked.{numbers_of}
use Rattle.amounts.proofs.Laws.{remaining-start, remaining-step, remaining-next, remaining-end}
use Rattle.amounts.proofs.take_earlier.Goals as goal

pub loop-x-init : goal.loop-x-init
loop-x-init c =
    let a = c.args in
    let p = c.requires in
    remaining-start (table_in a.store.now) a.columns.now a.from a.y a.made.now a.amounts.now.shifts a.amounts.now.peels p.bounded.0 p.held.2

pub take_up-requires : goal.take_up-requires
take_up-requires c =
    let l = c.loop-x in
    let p = c.requires in
    let a = c.args in
    let i : l.x < a.from = omega arith in record {
      held = (p.held.0, c.searched-column.ensures, p.held.1.each l.x i);
      bounded = (
        l.invariant.bounded,
        remaining-step (table_in a.store.now) a.columns.now a.from a.y _ l.x l.made l.amounts.shifts l.amounts.peels i l.invariant,
        omega (arith, l.invariant.few, p.bounded.1, i, p.held.1.few),
      );
    }

pub loop-x-preserved : goal.loop-x-preserved
loop-x-preserved c =
    let l = c.loop-x in
    let a = c.args in
    let i : l.x < a.from = omega arith in
    remaining-next (table_in a.store.now) a.columns.now a.from a.y (numbers_of a.amounts.now a.made.now) l.x l.made l.amounts.shifts l.amounts.peels i l.invariant
    _ _ _ (c.requires.held.1.each l.x i) c.take_up.ensures

pub returns : goal.returns
returns c =
    let l = c.loop-x in
    let a = c.args in record {
      taken = remaining-end (table_in a.store.now) a.columns.now a.from a.y (numbers_of a.amounts.now a.made.now) l.x l.made l.amounts.shifts l.amounts.peels
          (omega arith) l.invariant;
      bounded_2 = (l.invariant.bounded, omega (arith, l.invariant.few, l.invariant.past, c.requires.held.1.few));
    }
