-- The example's memory, and what is told of runs and steps of it with two processors.
use Rattle.std.specs.Prelude.{ℕ, zero, suc, ◌+◌, List, [], ◌∷◌, ◌++◌, pos, get_or, Float}
use Rattle.std.specs.Int.Count.{count_trailing_zeros}
use Rattle.std.specs.Float.{nan, binary64}
use Rattle.std.specs.Float.Ieee.{of_int, to_bits, add, sub, mul, div, neg, sum, round, span, climb, units, odd}
use Rattle.std.specs.Float.Ieee as Ieee
use Rattle.model.specs.declared.Iteration.{Iteration}
use Rattle.model.specs.Bodies.{binary, negated, combined, applied, worked, worked_all, value, performed}
use Rattle.refusals.specs.declared.Refusal.{Refusal}
use Rattle.refusals.specs.Answers.{refusal_of}
use Rattle.turns.specs.Turn.{Said, performs, closed, wrong_count, wrong_state, next, turn, stepped}
use Rattle.turns.specs.Row.{none_done, reports, counts_after, memory_after, idle, can_step, closing, row_of}
use Rattle.plans.specs.Plans.{settings, planned, planned_for}
use Rattle.iterations.specs.Memory.{remembered}
use Rattle.plain.specs.Plain.{plain_answer, run_of, plain_memory}
use Rattle.stepping.specs.Step.{stepped_by, step}
use Rattle.stepping.specs.Run.{run_answer, run_row, run_memory, run_idle}
use Rattle.known.specs.Records.{end, times}
use Rattle.known.specs.Bytes.{begun, example}
use Rattle.known.specs.Computed.{refusal, refusal_for, told, fused_in, peeled_in}

-- every element its own index, in three arrays of 12
abbrev pub whole : ℕ → Float
whole n = of_int binary64 (pos n)

abbrev indices : ℕ → ℕ → List Float
indices i zero = []
indices i (suc n) = whole i ∷ indices (suc i) n

abbrev pub own : List Float
own = indices 0 12 ++ indices 0 12 ++ indices 0 12

-- element i of array 2 in a memory
abbrev pub element_of : List Float → ℕ → Float
element_of m i = get_or m (24 + i) nan

-- after the example's plain run
unfoldable pub element : ℕ → Float
unfolding refusal plain_memory run_of plain_answer remembered binary negated combined applied worked worked_all value performed add sub mul div neg sum
    round Ieee.size span climb units odd count_trailing_zeros of_int
element i = element_of (plain_memory example own) i

-- the bits that a loop with this body stores
unfoldable pub bits : List ℕ → ℕ
unfolding element to_bits
bits items = to_bits binary64 (get_or (plain_memory (begun ++ items ++ end) (whole 0 ∷ [])) 0 nan)

-- 12 after the others: of a plain run, and of a run with P processors, for a memory of n numbers
unfoldable pub plain_refusal : List ℕ → ℕ → Refusal
unfolding refusal plain_answer remembered
plain_refusal s n = refusal_of (plain_answer s n)

unfoldable pub run_refusal : List ℕ → ℕ → ℕ → Refusal
unfolding refusal_for remembered
run_refusal s P n = refusal_of (run_answer s (settings P) n)

-- what a step of processor b says, from these counts
unfoldable pub said_from : ℕ → List ℕ → List Float → Said Iteration
unfolding element refusal_for fused_in peeled_in planned_for step stepped_by stepped turn next wrong_state wrong_count closed
said_from b counts m = (step example (settings 2) b counts m).said

-- a row of steps of all kinds: the last processor's until it waits, a number not below P, the first one's fused list, the last one finished,
-- the first one's peeled list, and that one finished
abbrev pub some_row : List ℕ
some_row = times 10 (1 ∷ []) ++ 2 ∷ times 9 (0 ∷ []) ++ 1 ∷ times 3 (0 ∷ [])

-- each iteration of a list is performed
abbrev pub performs_all : List Iteration → List (Said Iteration)
performs_all [] = []
performs_all (x ∷ xs) = performs x ∷ performs_all xs

-- what each step of a row says, and what the row leaves
unfoldable pub reported : List ℕ → List (Said Iteration)
unfolding said_from reports
reported bs = reports (step example (settings 2)) bs none_done own

unfoldable pub counts_left : List ℕ → List ℕ
unfolding said_from counts_after
counts_left bs = counts_after (step example (settings 2)) bs none_done own

unfoldable pub element_left : List ℕ → ℕ → Float
unfolding said_from memory_after
element_left bs i = element_of (memory_after (step example (settings 2)) bs none_done own) i

-- a run in a caller's order: its row, how many calls are idle, and what it leaves
unfoldable pub row_in : List ℕ → List ℕ
unfolding counts_left element_left can_step closing row_of
row_in order = told (run_row example (settings 2) order own) (planned example (settings 2))

unfoldable pub idle_in : List ℕ → ℕ
unfolding reported row_in idle run_idle
idle_in order = run_idle example (settings 2) order own

unfoldable pub element_in : List ℕ → ℕ → Float
unfolding idle_in run_memory
element_in order i = element_of (run_memory example (settings 2) order own) i
