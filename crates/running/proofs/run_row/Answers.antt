use Prim.Native.Nat.{ℕ}
use mathlib.Core.Path.{ap, ◌∙◌}
use Rattle.barriers.specs.Code.{listed_by}
use Rattle.running.proofs.Calls.{phased}
use Rattle.running.proofs.Closing.{rowed}
use Rattle.running.proofs.run_row.Goals as goal

pub listed-requires : goal.listed-requires
listed-requires c = (phased c.requires.0.1.1).ended.small

pub close-requires : goal.close-requires
close-requires c =
    let p = c.requires in
    let w = p.0.0 in
    let step = p.0.1.0 in
    let g = p.0.1.1 in
    let o = c.take_order-taken.ensures w step g in
    ((w, (step, g, o.reachable)), o.long)

pub returns : goal.returns
returns c =
    let b = c.args.layout.now.barriers.now in
    let most = c.listed.ensures ∙ ap (λ (n : ℕ). listed_by b.processors b.ends.now n) c.args.layout.now.in_two_phases in
    λ w step g. let o = c.take_order-taken.ensures w step g in rowed g o c.listed.result most (c.close.ensures w step g o.reachable)
