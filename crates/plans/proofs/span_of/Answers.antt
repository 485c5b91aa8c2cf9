use mathlib.Core.Path.{◌∙◌}
use Prim.Native.Nat.{◌<◌, ◌^◌}
use native.Mathlib.Omega.{arith}
use Rattle.reader.specs.Store.{first_at, last_at}
use Rattle.blocks.specs.SumLaws.{least-next, largest-next}
use Rattle.plans.proofs.Laws.{last-small, span-end}
use Rattle.plans.proofs.span_of.Goals as goal

pub loop-k-preserved : goal.loop-k-preserved
loop-k-preserved c =
    let st = c.args.store.now in
    let p = c.requires in
    let l = c.loop-k in
    let e : c.max-high.result < 2 ^ 31 = omega (arith, last-small st p.0 p.1 l.k (omega arith)) in (
      c.min-low.ensures ∙ least-next _ (first_at st) _ _ l.invariant.0 c.first_at.ensures,
      c.max-high.ensures ∙ largest-next _ (last_at st) _ _ l.invariant.1 c.last_at.ensures,
      e,
    )

pub returns : goal.returns
returns c =
    let p = c.requires in
    let l = c.loop-k in
    span-end c.args.store.now p.0 p.1 l.k l.low l.high c.saturating_sub.result
    (omega arith) (omega arith) l.invariant.0 l.invariant.1 c.saturating_sub.ensures
