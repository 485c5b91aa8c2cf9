-- One step of a processor: its next iteration, or waiting, or finished, or a refusal.
use Rattle.std.specs.Prelude.{ℕ, List, length, Float}
use Rattle.model.specs.declared.Iteration.{Iteration}
use Rattle.model.specs.Table.{iteration}
use Rattle.model.specs.Bodies.{run}
use Rattle.refusals.specs.Answers.{AnswerOf, accepted, refused}
use Rattle.lists.specs.Fusion.{phases, work, fused_list, peeled_list}
use Rattle.turns.specs.Turn.{Work, Said, refuses, performs, waits, ends, After, stays, stepped}
use Rattle.plans.specs.Plans.{Settings, Planned, planned_for}
use Rattle.iterations.specs.Memory.{element_total, remembered}
use Rattle.stepping.specs.declared.Report.{Report}
use Rattle.stepping.specs.declared.Report.TheVariants.{Refused, Performed, Waiting, Finished}

-- the work of an accepted plan: its processors, and the lists of each phase
abbrev pub work_of : Planned → Work Iteration
work_of q = record { processors = q.plan.processors; phases = phases q.table q.plan; list = work q.table q.plan }

-- processor b's fused list, and the peeled list that it runs past the barrier
abbrev pub fused : Planned → ℕ → List Iteration
fused q b = fused_list q.table q.plan b

abbrev pub peeled : Planned → ℕ → List Iteration
peeled q b = peeled_list q.table q.plan b

-- what a call says, as code reports it
abbrev pub report_of : Said Iteration → Report
report_of (refuses r) = Refused r
report_of (performs x) = Performed x.number x.index
report_of waits = Waiting
report_of ends = Finished

-- how many elements its memory has
abbrev pub elements : Planned → ℕ
elements q = element_total q.table

-- after 1 to 12: 15, or the turn
unfoldable pub stepped_by : ℕ → List ℕ → List Float → AnswerOf Planned → After Iteration (List Float)
stepped_by b counts m (refused r) = stays counts m (refuses r)
stepped_by b counts m (accepted q) = stepped (iteration 0 0) (work_of q) (run q.table) b counts m

-- from a table's bytes: 1 to 9, 19, 20, 10 (P, then the number), 17, 11, 12, 15
unfoldable pub step : List ℕ → Settings → ℕ → List ℕ → List Float → After Iteration (List Float)
unfolding stepped_by
step s w b counts m = stepped_by b counts m (remembered elements (length m) (planned_for s w b))
