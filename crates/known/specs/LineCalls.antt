-- Calls on lines of several indices, from bytes and by computation: the bytes of both lists, steps and runs of the example with two processors and
-- lines of 4, and 17 of each call that plans, before 12, 13 and 15.
use Rattle.std.specs.Prelude.{ℕ, ◌≡◌, refl, List, [], ◌∷◌, ◌++◌, Float}
use Rattle.model.specs.declared.Iteration.{Iteration}
use Rattle.model.specs.Table.{iteration}
use Rattle.refusals.specs.Refusals.{met}
use Rattle.refusals.specs.Answers.{accepted, refused, refusal_of}
use Rattle.numbers.specs.Numbers.{four, encoded}
use Rattle.outputs.specs.Given.{fitted, count_of}
use Rattle.plans.specs.Plans.{Settings, settings, on_lines, planned_for}
use Rattle.entries.specs.Entries.{blocks_given, list_given, ranges_given, fused_given, peeled_given, fused_ranges_given, peeled_ranges_given}
use Rattle.printing.specs.Printing.{listing_given}
use Rattle.turns.specs.Turn.{Said, performs, refuses, waits}
use Rattle.turns.specs.Row.{none_done}
use Rattle.stepping.specs.Step.{step}
use Rattle.stepping.specs.Run.{run_answer, run_memory, run_idle}
use Rattle.known.specs.Records.{number, times}
use Rattle.known.specs.Bytes.{example}
use Rattle.known.specs.Computed.{listed}
use Rattle.known.specs.Memory.{whole, own, element_of, run_refusal, said_from, idle_in, element_in}

-- two processors, lines of 4, and lines of 65, which there are not
abbrev pub fours : Settings
fours = on_lines 4 (settings 2)

abbrev pub too_long : Settings
too_long = on_lines 65 (settings 2)

-- what a step of processor b says
unfoldable pub said_on : Settings → ℕ → List ℕ → List Float → Said Iteration
unfolding said_from
said_on w b counts m = (step example w b counts m).said

-- a run in a caller's order: how many calls are idle, and an element that it leaves
unfoldable pub idle_on : List ℕ → ℕ
unfolding idle_in
idle_on order = run_idle example fours order own

unfoldable pub element_on : List ℕ → ℕ → Float
unfolding element_in
element_on order i = element_of (run_memory example fours order own) i

pub record LineCalls : Type 0 where
  -- loop and iteration of each in both lists; a byte less is 13
  pub fused-bytes : fused_given example fours 1 24 ≡ accepted (number 0 ++ number 9 ++ number 0 ++ number 10 ++ number 1 ++ number 10)
  pub peeled-bytes : peeled_given example fours 0 16 ≡ accepted (number 1 ++ number 8 ++ number 1 ++ number 9)
  pub fused-short : fused_given example fours 1 23 ≡ refused (met 13 0)
  pub listing-bytes : count_of (listing_given example fours 132) ≡ 132
  -- the last processor begins with index 9, waits after three iterations, and the first one's list is longer
  pub first_step : said_on fours 1 none_done own ≡ performs (iteration 0 9)
  pub waiting-step : said_on fours 1 (0 ∷ 3 ∷ times 62 (0 ∷ [])) own ≡ waits
  pub ninth-step : said_on fours 0 (9 ∷ times 63 (0 ∷ [])) own ≡ performs (iteration 0 6)
  -- so of five calls of it two are idle; the run ends as the plain run does
  pub idle-two : idle_on (times 5 (1 ∷ [])) ≡ 2
  pub run-1 : element_on (times 5 (1 ∷ [])) 1 ≡ whole 3
  pub run-5 : element_on (times 5 (1 ∷ [])) 5 ≡ whole 12
  pub run-10 : element_on (times 5 (1 ∷ [])) 10 ≡ whole 21
  -- 17 of each call: before 13, of a listing too; before 12 of a run; before 12 and 15 of a step
  pub blocks-line : blocks_given example too_long 0 ≡ refused (met 17 0)
  pub fused-line : fused_given example too_long 0 0 ≡ refused (met 17 0)
  pub peeled-line : peeled_given example too_long 0 0 ≡ refused (met 17 0)
  pub ranges-line : fused_ranges_given example too_long 0 0 ≡ refused (met 17 0)
  pub peeled-ranges-line : peeled_ranges_given example too_long 0 0 ≡ refused (met 17 0)
  pub listing-line : listing_given example too_long 0 ≡ refused (met 17 0)
  pub run-line : refusal_of (run_answer example too_long 0) ≡ met 17 0
  pub step_line : said_on too_long 0 (times 64 (1 ∷ [])) [] ≡ refuses (met 17 0)
  -- and where W is right, 12 of a run and of a step
  pub run-memory : refusal_of (run_answer example fours 35) ≡ met 12 0
  pub step-memory : said_on fours 0 none_done [] ≡ refuses (met 12 0)
  pub step-number : said_on too_long 2 (times 64 (1 ∷ [])) [] ≡ refuses (met 10 0)
  -- as the struct of C is where it was not made with its function: a line of 0
  pub blocks-zero : blocks_given example (on_lines 0 (settings 2)) 16 ≡ refused (met 17 0)

pub line-calls : LineCalls
unfolding listed blocks_given list_given ranges_given planned_for listing_given fitted encoded four run_refusal said_on idle_on element_on
line-calls = record {
  fused-bytes = refl;
  peeled-bytes = refl;
  fused-short = refl;
  listing-bytes = refl;
  first_step = refl;
  waiting-step = refl;
  ninth-step = refl;
  idle-two = refl;
  run-1 = refl;
  run-5 = refl;
  run-10 = refl;
  blocks-line = refl;
  fused-line = refl;
  peeled-line = refl;
  ranges-line = refl;
  peeled-ranges-line = refl;
  listing-line = refl;
  run-line = refl;
  step_line = refl;
  run-memory = refl;
  step-memory = refl;
  step-number = refl;
  blocks-zero = refl;
}
