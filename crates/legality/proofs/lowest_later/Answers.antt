use native.Mathlib.Omega.{arith}
use Rattle.reader.specs.Held.{count_held}
use Rattle.amounts.proofs.Laws.{count-few}
use Rattle.legality.proofs.Laws.{none-start, none-next, later-found, later-none}
use Rattle.legality.proofs.lowest_later.Goals as goal

pub loop-k-init : goal.loop-k-init
loop-k-init c = let a = c.args in none-start c.requires.held.0 a.a.now a.j

pub unmet_pair-requires : goal.unmet_pair-requires
unmet_pair-requires c =
    let p = c.requires.held in
    record { held = (p.0, omega arith, omega (arith, count_held p.0)); lasts = c.requires.lasts }

pub returns-then-unmet_pair : goal.returns-then-unmet_pair
returns-then-unmet_pair c =
    let a = c.args in
    let p = c.requires.held in
    let l = c.loop-k in
    later-found p.0 a.a.now a.j l.k _ (omega (arith, count_held p.0, count-few p.0)) l.invariant c.unmet_pair.ensures c.if-unmet_pair.true

pub loop-k-preserved : goal.loop-k-preserved
loop-k-preserved c =
    let a = c.args in
    let l = c.loop-k in
    none-next c.requires.held.0 a.a.now a.j l.k _ l.invariant c.unmet_pair.ensures c.if-unmet_pair.false

pub returns : goal.returns
returns c =
    let a = c.args in
    let l = c.loop-k in
    later-none c.requires.held.0 a.a.now a.j l.k (omega (arith, count_held c.requires.held.0)) l.invariant
