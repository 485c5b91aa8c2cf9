-- A step of a work whose lists are all at hand, whatever number it names: 10 if that is not below P, else the turn of that processor.
use Rattle.std.specs.Prelude.{ℕ, cond, List, ltb, Float}
use Rattle.refusals.specs.Refusals.{met}
use Rattle.model.specs.declared.Iteration.{Iteration}
use Rattle.model.specs.Table.{Table, iteration}
use Rattle.model.specs.Bodies.{run}
use Rattle.turns.specs.Turn.{Work, refuses, After, stays, turn}

abbrev pub called : Work Iteration → Table → ℕ → List ℕ → List Float → After Iteration (List Float)
called w t b counts m = cond (ltb b w.processors) (turn (iteration 0 0) w (run t) b counts m) (stays counts m (refuses (met 10 0)))
