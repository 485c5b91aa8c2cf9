-- Rows of step calls of an accepted plan: what a memory has to be, when a row is complete, what it performs, what the next call reports.
use Rattle.std.specs.Prelude.{ℕ, ◌≡◌, List, map, length, Float}
use mathlib.Core.List.{Memᴰ as Mem}
use Rattle.model.specs.declared.Iteration.{Iteration}
use Rattle.model.specs.Table.{Inside}
use Rattle.turns.specs.Row.{actions_of, none_done, reports, counts_after, memory_after}
use Rattle.plans.specs.Plans.{Settings, Planned}
use Rattle.stepping.specs.declared.Report.{Report}
use Rattle.stepping.specs.declared.Report.TheVariants.{Performed}
use Rattle.stepping.specs.Step.{elements, report_of, step}

-- a memory of the table's length
abbrev pub Fits : Planned → List Float → Type 0
Fits q m = length m ≡ elements q

-- the row has reported every iteration of every loop
abbrev pub Complete : List ℕ → Settings → Planned → List ℕ → List Float → Type 0
Complete s w q bs m = (x : Iteration) → Inside q.table x → Mem (Performed x.number x.index) (map report_of (reports (step s w) bs none_done m))

-- what its calls perform, in order
abbrev pub row : List ℕ → Settings → List ℕ → List Float → List Iteration
row s w bs m = actions_of (reports (step s w) bs none_done m)

-- what the next call of processor b reports, after a row
abbrev pub next_report : List ℕ → Settings → List ℕ → List Float → ℕ → Report
next_report s w bs m b = report_of (step s w b (counts_after (step s w) bs none_done m) (memory_after (step s w) bs none_done m)).said
