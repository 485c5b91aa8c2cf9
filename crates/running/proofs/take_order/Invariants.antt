use Rattle.model.specs.declared.Iteration.{Iteration}
use Rattle.turns.specs.Turn.{Work}
use Rattle.running.specs.Code.{Step, CallingIn}
use Rattle.running.proofs.Order.{Going}
use Rattle.running.proofs.take_order.Given as goal

abbrev pub invariant-loop-b : goal.invariant-loop-b
invariant-loop-b l =
    (w : Work Iteration) (step : Step) → CallingIn w step l.layout → Going w step l.layout.store.now l.order l.initial.memory l.counts.done l.memory l.idle l.b-index
