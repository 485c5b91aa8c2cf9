use Prim.Native.Nat.{◌-◌}
use Rattle.model.specs.declared.Iteration.{Iteration}
use Rattle.turns.specs.Turn.{Work}
use Rattle.turns.specs.Reachable.{Reachable}
use Rattle.running.specs.Code.{Step, CallingIn}
use Rattle.running.proofs.Closing.{Closing}
use Rattle.running.proofs.close.Given as goal

abbrev pub invariant-loop-i : goal.invariant-loop-i
invariant-loop-i l =
    (w : Work Iteration) (step : Step) → CallingIn w step l.layout → Reachable w l.initial.counts.done
    → Closing w step l.layout.barriers.now.processors l.layout.store.now l.most l.initial.counts.done l.initial.memory l.counts.done l.memory (l.most - l._i)
