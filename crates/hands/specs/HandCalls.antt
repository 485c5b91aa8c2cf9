-- Calls with a plan by hand, from bytes and by computation: blocks, lists, ranges, steps, runs and listing of the example with two processors, and 19 and
-- 20 of each call that plans, before 10.
use Rattle.std.specs.Prelude.{ℕ, ◌≡◌, refl, List, [], ◌∷◌, ◌++◌, Float}
use Rattle.model.specs.declared.Iteration.{Iteration}
use Rattle.model.specs.Table.{iteration}
use Rattle.refusals.specs.Refusals.{met, naming}
use Rattle.refusals.specs.Answers.{accepted, refused, refusal_of}
use Rattle.numbers.specs.Numbers.{four, encoded}
use Rattle.outputs.specs.Given.{fitted}
use Rattle.lists.specs.Fusion.{fused_list, peeled_list}
use Rattle.plans.specs.Plans.{Settings, settings, with_plan, planned, planned_for}
use Rattle.entries.specs.Entries.{blocks_given, list_given, ranges_given, fused_given, peeled_given, fused_ranges_given, peeled_ranges_given}
use Rattle.text.specs.Ascii.{ascii}
use Rattle.printing.specs.Printing.{text, listing_given}
use Rattle.turns.specs.Turn.{Said, performs, refuses, waits}
use Rattle.stepping.specs.Step.{step}
use Rattle.stepping.specs.Run.{run_answer, run_memory, run_idle}
use Rattle.known.specs.Records.{number, times}
use Rattle.known.specs.Bytes.{example}
use Rattle.known.specs.Computed.{told, fused_in, peeled_in, listed}
use Rattle.known.specs.Memory.{whole, own, element_of, run_refusal, said_from, idle_in, element_in}
use Rattle.hands.specs.Hands.{plan2}

-- two processors: a plan with other numbers than the example's own; one in which the first loop has a shift and a peel
abbrev pub hand : Settings
hand = with_plan (plan2 0 0 2 3) (settings 2)

abbrev pub both : Settings
both = with_plan (plan2 1 1 2 2) (settings 2)

-- and, for no processors, which is 10: a plan of no bytes, and one that does not meet the example's dependences
abbrev pub none-given : Settings
none-given = with_plan [] (settings 0)

abbrev pub unmet : Settings
unmet = with_plan (plan2 0 0 0 0) (settings 0)

-- processor b's lists; what a step of it says; a run in a caller's order: how many calls are idle, and an element that it leaves
unfoldable pub fused_by : Settings → ℕ → List Iteration
unfolding fused_in
fused_by w b = told (λ q. fused_list q.table q.plan b) (planned example w)

unfoldable pub peeled_by : Settings → ℕ → List Iteration
unfolding peeled_in
peeled_by w b = told (λ q. peeled_list q.table q.plan b) (planned example w)

unfoldable pub said_by : Settings → ℕ → List ℕ → List Float → Said Iteration
unfolding said_from
said_by w b counts m = (step example w b counts m).said

unfoldable pub idle_by : Settings → List ℕ → ℕ
unfolding idle_in
idle_by w order = run_idle example w order own

unfoldable pub element_by : Settings → List ℕ → ℕ → Float
unfolding element_in
element_by w order i = element_of (run_memory example w order own) i

pub record HandCalls : Type 0 where
  -- the example with two processors, loop 1 having the shift 2 and the peel 3: blocks 1 to 5 and 6 to 10
  pub blocks : blocks_given example hand 16 ≡ accepted (number 1 ++ number 5 ++ number 6 ++ number 10)
  -- fused by i + shift: of loop 1 the iterations 1 to 3, which come with 3 to 5 of loop 0; and 9 and 10
  pub fused-first : fused_by hand 0
      ≡ iteration 0 1 ∷ iteration 0 2 ∷ iteration 0 3 ∷ iteration 1 1 ∷ iteration 0 4 ∷ iteration 1 2 ∷ iteration 0 5 ∷ iteration 1 3 ∷ []
  pub fused-last : fused_by hand 1
      ≡ iteration 0 6 ∷ iteration 0 7 ∷ iteration 0 8 ∷ iteration 0 9 ∷ iteration 0 10 ∷ iteration 1 9 ∷ iteration 1 10 ∷ []
  pub peeled-first : peeled_by hand 0 ≡ iteration 1 4 ∷ iteration 1 5 ∷ iteration 1 6 ∷ iteration 1 7 ∷ iteration 1 8 ∷ []
  pub peeled-last : peeled_by hand 1 ≡ []
  pub peeled-bytes : peeled_given example hand 0 40
      ≡ accepted (number 1 ++ number 4 ++ number 1 ++ number 5 ++ number 1 ++ number 6 ++ number 1 ++ number 7 ++ number 1 ++ number 8)
  pub fused-ranges : fused_ranges_given example hand 1 16 ≡ accepted (number 6 ++ number 11 ++ number 9 ++ number 11)
  pub peeled-ranges : peeled_ranges_given example hand 0 16 ≡ accepted (number 0 ++ number 0 ++ number 4 ++ number 9)
  -- the first loop may be peeled, too, and its iterations stand before the later one's: shifts 1 and 2, peels 1 and 2
  pub both-peeled : peeled_by both 0 ≡ iteration 0 5 ∷ iteration 0 6 ∷ iteration 1 4 ∷ iteration 1 5 ∷ iteration 1 6 ∷ iteration 1 7 ∷ []
  pub both-fused : fused_by both 1
      ≡ iteration 0 7 ∷ iteration 0 8 ∷ iteration 0 9 ∷ iteration 1 8 ∷ iteration 0 10 ∷ iteration 1 9 ∷ iteration 1 10 ∷ []
  -- steps: the fourth of processor 0; waiting after seven of processor 1; past the barrier; one count above its lists is 15
  pub fourth-step : said_by hand 0 (3 ∷ times 63 (0 ∷ [])) own ≡ performs (iteration 1 1)
  pub waiting-step : said_by hand 1 (0 ∷ 7 ∷ times 62 (0 ∷ [])) own ≡ waits
  pub peeled-step : said_by hand 0 (8 ∷ 7 ∷ times 62 (0 ∷ [])) own ≡ performs (iteration 1 4)
  pub early-step : said_by hand 0 (9 ∷ 6 ∷ times 62 (0 ∷ [])) own ≡ refuses (met 15 0)
  pub above_step : said_by hand 1 (8 ∷ 8 ∷ times 62 (0 ∷ [])) own ≡ refuses (met 15 0)
  -- of nine calls of processor 1 two are idle; the run ends as the plain run does
  pub idle-two : idle_by hand (times 9 (1 ∷ [])) ≡ 2
  pub run-1 : element_by hand (times 9 (1 ∷ [])) 1 ≡ whole 3
  pub run-5 : element_by hand (times 9 (1 ∷ [])) 5 ≡ whole 12
  pub run-10 : element_by hand (times 9 (1 ∷ [])) 10 ≡ whole 21
  -- the listing has the plan's numbers
  pub listing : text example hand
      ≡ ascii "loop 0 0 0\n"
      ++ ascii "loop 1 2 3\n"
      ++ ascii "block 0 1 5\n"
      ++ ascii "block 1 6 10\n"
      ++ ascii "fused 0 0 1 5\n"
      ++ ascii "fused 0 1 1 3\n"
      ++ ascii "fused 1 0 6 10\n"
      ++ ascii "fused 1 1 9 10\n"
      ++ ascii "peeled 0 1 4 8\n"
      ++ ascii "sweeps 6 5\n"
  -- 19 and 20 of each call: before 10, and so before 12, 13 and 15
  pub blocks-nineteen : blocks_given example none-given 0 ≡ refused (met 19 0)
  pub blocks-twenty : blocks_given example unmet 0 ≡ refused (naming 20 0 1 0)
  pub fused-twenty : fused_given example unmet 0 0 ≡ refused (naming 20 0 1 0)
  pub peeled-twenty : peeled_given example unmet 0 0 ≡ refused (naming 20 0 1 0)
  pub ranges-twenty : fused_ranges_given example unmet 0 0 ≡ refused (naming 20 0 1 0)
  pub peeled-ranges-twenty : peeled_ranges_given example unmet 0 0 ≡ refused (naming 20 0 1 0)
  pub listing-twenty : listing_given example unmet 0 ≡ refused (naming 20 0 1 0)
  pub run-twenty : refusal_of (run_answer example unmet 0) ≡ naming 20 0 1 0
  pub step-twenty : said_by unmet 0 (times 64 (1 ∷ [])) [] ≡ refuses (naming 20 0 1 0)
  pub check-twenty : refusal_of (planned example unmet) ≡ naming 20 0 1 0
  pub run-nineteen : refusal_of (run_answer example none-given 0) ≡ met 19 0
  pub step-nineteen : said_by none-given 0 (times 64 (1 ∷ [])) [] ≡ refuses (met 19 0)

pub hand-calls : HandCalls
unfolding listed fused_by peeled_by blocks_given list_given ranges_given planned_for listing_given fitted encoded four run_refusal said_by idle_by element_by
hand-calls = record {
  blocks = refl;
  fused-first = refl;
  fused-last = refl;
  peeled-first = refl;
  peeled-last = refl;
  peeled-bytes = refl;
  fused-ranges = refl;
  peeled-ranges = refl;
  both-peeled = refl;
  both-fused = refl;
  fourth-step = refl;
  waiting-step = refl;
  peeled-step = refl;
  early-step = refl;
  above_step = refl;
  idle-two = refl;
  run-1 = refl;
  run-5 = refl;
  run-10 = refl;
  listing = refl;
  blocks-nineteen = refl;
  blocks-twenty = refl;
  fused-twenty = refl;
  peeled-twenty = refl;
  ranges-twenty = refl;
  peeled-ranges-twenty = refl;
  listing-twenty = refl;
  run-twenty = refl;
  step-twenty = refl;
  check-twenty = refl;
  run-nineteen = refl;
  step-nineteen = refl;
}
