-- What an exported function leaves in the numbers that it is lent: its answer and, for a step, its report.
use Rattle.std.specs.Prelude.{ℕ, ◌≤◌, ◌<◌, List, set, Float}
use Rattle.refusals.specs.declared.Refusal.{Refusal}
use Rattle.refusals.specs.Refusals.{none}
use Rattle.plans.specs.Plans.{Settings}
use Rattle.stepping.specs.declared.Report.{Report}
use Rattle.stepping.specs.declared.Report.TheVariants.{Refused, Performed, Waiting, Finished}
use Rattle.stepping.specs.Step.{report_of, step}

-- an answer: the ground's number, 0 for none; the place; the two numbers that are named
abbrev pub answered : Refusal → List ℕ → List ℕ
answered r xs = set (set (set (set xs 0 r.ground) 1 r.place) 2 r.first) 3 r.second

-- a report: 1, a loop and an iteration; 2 where the processor waits; 3 where it is finished. A refused call leaves it as found. So a
-- first number that was 0 before the call is 0 after it only if the call was refused (`zero-refused`)
abbrev pub written : ℕ → ℕ → ℕ → List ℕ → List ℕ
written kind number index xs = set (set (set xs 0 kind) 1 number) 2 index

unfoldable pub reported : Report → List ℕ → List ℕ
reported (Refused r) xs = xs
reported (Performed number index) xs = written 1 number index xs
reported Waiting xs = written 2 0 0 xs
reported Finished xs = written 3 0 0 xs

-- what is refused
unfoldable pub refusal_in : Report → Refusal
refusal_in (Refused r) = r
refusal_in (Performed number index) = none
refusal_in Waiting = none
refusal_in Finished = none

-- what a step reports
abbrev pub report_at : List ℕ → Settings → ℕ → List ℕ → List Float → Report
report_at s w b counts m = report_of (step s w b counts m).said

-- a report's numbers have room
unfoldable pub ReportFits : Report → Type 0
ReportFits (Refused r) = Unit {0}
ReportFits (Performed number index) = (number < 16) × (index ≤ 65790)
ReportFits Waiting = Unit {0}
ReportFits Finished = Unit {0}
