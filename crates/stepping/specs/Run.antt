-- The run in a caller's order, from a table's bytes: refused by 1 to 9, 19, 20, 10 of P, 17, 11 and 12, or its row's memory and idle count.
use Rattle.std.specs.Prelude.{ℕ, List, length, Float}
use Rattle.refusals.specs.Answers.{AnswerOf, accepted, refused}
use Rattle.turns.specs.Row.{none_done, reports, memory_after, idle, listed, row_of}
use Rattle.plans.specs.Plans.{Settings, Planned, planned}
use Rattle.iterations.specs.Memory.{remembered}
use Rattle.stepping.specs.Step.{work_of, elements, step}

abbrev pub run_answer : List ℕ → Settings → ℕ → AnswerOf Planned
run_answer s w n = remembered elements n (planned s w)

module _ (s : List ℕ) (w : Settings) (order : List ℕ) (m : List Float) where
  -- a call for each number of the order, then calls for the lowest-numbered processor that can step
  abbrev pub run_row : Planned → List ℕ
  run_row q = row_of (step s w) q.plan.processors (listed (work_of q)) order m

  abbrev pub memory_of : AnswerOf Planned → List Float
  memory_of (refused r) = m
  memory_of (accepted q) = memory_after (step s w) (run_row q) none_done m

  abbrev pub idle_of : AnswerOf Planned → ℕ
  idle_of (refused r) = 0
  idle_of (accepted q) = idle (reports (step s w) (run_row q) none_done m)

  unfoldable pub run_memory : List Float
  run_memory = memory_of (run_answer s w (length m))

  unfoldable pub run_idle : ℕ
  run_idle = idle_of (run_answer s w (length m))
