use native.Mathlib.Omega.{arith}
use mathlib.Core.Path.{refl, sym, ◌∙◌}
use Rattle.barriers.proofs.Same.{zeros-small, zeros-rows}
use Rattle.iterations.specs.LoadedLaws.{loaded-total}
use Rattle.plans.specs.Code.{planned_in}
use Rattle.layouts.specs.Layout.{work_in}
use Rattle.stepping.specs.Step.{step}
use Rattle.steps.specs.Laid.{loaded-in}
use Rattle.running.proofs.Laws.{calling-in, calling-some, runs-unlike, runs-made}
use Rattle.running.proofs.run_planned.Goals as goal

pub returns-then-memory-total : goal.returns-then-memory-total
returns-then-memory-total c =
    let a = c.args in
    let p = c.requires in
    let st = a.store.now in
    let bs = c.bases_of-bases in
    let ld = loaded-in p bs.result.firsts bs.ensures in
    let n = loaded-total ld _ c.total.ensures in
    rw c.met.ensures
    (λ s w e. runs-unlike s w a.order.now a.memory.now (planned_in a.a st) e (λ z. c.if-memory-total.true (z ∙ sym n)))

pub put_ends-requires : goal.put_ends-requires
put_ends-requires c = (c.requires, zeros-rows, zeros-small 3 64)

pub run_row-requires : goal.run_row-requires
run_row-requires c =
    let a = c.args in
    let p = c.requires in
    let st = a.store.now in
    let bs = c.bases_of-bases in
    let ld = loaded-in p bs.result.firsts bs.ensures in
    let n = loaded-total ld _ c.total.ensures in
    let l = c.put_ends.ensures in (
      calling-some a.a st p _ _ bs.result.firsts ld l.0 l.1 _ (omega arith) c.put_all_lists.ensures,
      c.if-memory-total.false ∙ n,
    )

pub returns : goal.returns
returns c =
    let a = c.args in
    let p = c.requires in
    let st = a.store.now in
    let bs = c.bases_of-bases in
    let ld = loaded-in p bs.result.firsts bs.ensures in
    let n = loaded-total ld _ c.total.ensures in
    let l = c.put_ends.ensures in
    let x = c.run_row in
    λ s w e. runs-made s w a.order.now a.memory.now (planned_in a.a st) e (c.if-memory-total.false ∙ n) _ x.result
    (x.ensures (work_in a.a st) (step s w)
    (calling-in a.a st p _ _ bs.result.firsts ld l.0 l.1 _ (omega arith) c.put_all_lists.ensures s w e))
