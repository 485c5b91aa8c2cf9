use Prim.Native.Nat.{ℕ, ◌+◌}
use mathlib.Core.Path.{◌≡◌, subst}
use native.Mathlib.Omega.{arith}
use Rattle.reader.specs.Store.{start_at, table_in}
use Rattle.amounts.specs.Rows.{past_row, start-in, past-start, past_end}
use Rattle.amounts.specs.Walked.{WalkedTo}
use Rattle.amounts.proofs.walk_loop.Goals as goal

pub loop-r-init : goal.loop-r-init
loop-r-init c = let p = c.requires.held in rw (c.start_at-r.ensures, past-start p.0 c.args.k p.1) c.requires.walked

pub walk_row-requires : goal.walk_row-requires
walk_row-requires c =
    let p = c.requires.held in
    record { held = (p.0, p.1, c.requires.walked.references); k_bound = (omega arith, omega arith); walked = c.loop-r.invariant }

pub returns : goal.returns
returns c =
    let l = c.loop-r in
    let a = c.args in
    let p = c.requires.held in
    let some = start-in p.0 a.k p.1 in
    let all : l.r ≡ start_at a.store.now (a.k + 1) = omega (arith, l.auto.r-end (omega (arith, some))) in
    rw (← (past_end p.0 a.k p.1)) (subst (λ (m : ℕ). WalkedTo (table_in a.store.now) (past_row a.store.now a.k m) l.walk l.made) all l.invariant)
