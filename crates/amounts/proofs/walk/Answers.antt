use Prim.Native.Nat.{ℕ}
use mathlib.Core.Path.{◌≡◌, subst}
use native.Mathlib.Omega.{arith}
use Rattle.order.specs.Sequences.{joined}
use Rattle.model.specs.Table.{count}
use Rattle.model.specs.References.{refs}
use Rattle.reader.specs.Store.{table_in}
use Rattle.reader.specs.Held.{count_held}
use Rattle.amounts.specs.Walked.{WalkedTo}
use Rattle.amounts.proofs.Laws.{walked_start, walked_all}
use Rattle.amounts.proofs.walk.Goals as goal

pub loop-k-init : goal.loop-k-init
loop-k-init c = rw c.new.ensures (walked_start (table_in c.args.store.now))

pub walk_loop-requires : goal.walk_loop-requires
walk_loop-requires c = record { held = (c.requires, omega (arith, count_held c.requires)); walked = c.loop-k.invariant }

pub returns : goal.returns
returns c =
    let l = c.loop-k in
    let t = table_in c.args.store.now in
    let all : l.k ≡ count t = omega (arith, count_held c.requires) in
    walked_all (subst (λ (m : ℕ). WalkedTo t (joined m (refs t)) l.walk l.made) all l.invariant)
