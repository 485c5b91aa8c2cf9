use native.Mathlib.Omega.{arith}
use Rattle.serial.proofs.Walks.{loop-found, loop-nothing, lower-start, lower-next}
use Rattle.serial.proofs.first_pair.Goals as goal

pub loop-row-init : goal.loop-row-init
loop-row-init c = let r = c.rows_of-rows.result in lower-start c.args.store.now r.first r.last r.from r.past

pub returns-in-Some : goal.returns-in-Some
returns-in-Some c =
    let l = c.loop-row in
    loop-found c.args.store.now c.requires.0 c.args.k c.requires.1 c.rows_of-rows.result c.rows_of-rows.ensures.is l.row _ _ _ l.invariant c.in-Some.ensures
    c.references_in-lower.ensures c.references_in-higher.ensures

pub loop-row-preserved : goal.loop-row-preserved
loop-row-preserved c =
    let l = c.loop-row in
    let r = c.rows_of-rows.result in
    lower-next c.args.store.now r.first r.last r.from r.past l.row l.invariant c.in_default.ensures

pub returns : goal.returns
returns c =
    let l = c.loop-row in
    loop-nothing c.args.store.now c.requires.0 c.args.k c.requires.1 c.rows_of-rows.result c.rows_of-rows.ensures.is l.row _ l.invariant
    c.last_destination-end.ensures (omega (arith, c.loop-row-test.false))
