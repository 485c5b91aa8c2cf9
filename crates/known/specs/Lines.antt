-- Blocks on whole lines, from bytes and by computation: where they begin and end, 11 by lines and by the last block as it is cut, 17 and its order.
use Rattle.std.specs.Prelude.{ℕ, ◌≡◌, refl, List, [], ◌∷◌, ◌++◌}
use Rattle.model.specs.declared.Iteration.{Iteration}
use Rattle.model.specs.Table.{iteration}
use Rattle.refusals.specs.declared.Refusal.{Refusal}
use Rattle.refusals.specs.Refusals.{none, met, naming}
use Rattle.refusals.specs.Answers.{accepted, refusal_of}
use Rattle.numbers.specs.Numbers.{four, encoded}
use Rattle.outputs.specs.Given.{fitted}
use Rattle.lists.specs.Fusion.{fused_list, peeled_list}
use Rattle.plans.specs.Plans.{settings, on_lines, planned, planned_for}
use Rattle.entries.specs.Entries.{blocks_given, list_given, ranges_given, fused_ranges_given, peeled_ranges_given}
use Rattle.text.specs.Ascii.{ascii}
use Rattle.printing.specs.Printing.{text}
use Rattle.known.specs.Records.{array, ahead, loop, one, end, number}
use Rattle.known.specs.Bytes.{example, itself, single}
use Rattle.known.specs.Computed.{told, refusal_for, fused_in, peeled_in, listed}

-- a plan's refusal, for P processors and lines of W, and where a processor is named
unfoldable pub refusal_on : List ℕ → ℕ → ℕ → Refusal
unfolding refusal_for
refusal_on s P W = refusal_of (planned s (on_lines W (settings P)))

unfoldable pub named_on : List ℕ → ℕ → ℕ → ℕ → Refusal
unfolding refusal_for planned_for
named_on s P W b = refusal_of (planned_for s (on_lines W (settings P)) b)

-- processor b's lists
unfoldable pub fused_on : List ℕ → ℕ → ℕ → ℕ → List Iteration
unfolding fused_in
fused_on s P W b = told (λ q. fused_list q.table q.plan b) (planned s (on_lines W (settings P)))

unfoldable pub peeled_on : List ℕ → ℕ → ℕ → ℕ → List Iteration
unfolding peeled_in
peeled_on s P W b = told (λ q. peeled_list q.table q.plan b) (planned s (on_lines W (settings P)))

pub record Lines : Type 0 where
  -- the example, T = 10 from index 1 on. Three lines of 4: two blocks have 2 lines and 1, the last cut at index 10; three have one each
  pub four-two : blocks_given example (on_lines 4 (settings 2)) 16 ≡ accepted (number 1 ++ number 8 ++ number 9 ++ number 10)
  pub four-three : blocks_given example (on_lines 4 (settings 3)) 24
      ≡ accepted (number 1 ++ number 4 ++ number 5 ++ number 8 ++ number 9 ++ number 10)
  -- four lines of 3: the first block has 2 of them
  pub three-two : blocks_given example (on_lines 3 (settings 2)) 16 ≡ accepted (number 1 ++ number 6 ++ number 7 ++ number 10)
  pub three-three : blocks_given single (on_lines 3 (settings 3)) 24
      ≡ accepted (number 1 ++ number 6 ++ number 7 ++ number 9 ++ number 10 ++ number 10)
  -- lines of 1, and lines that come out even, give the blocks of before
  pub one-two : blocks_given example (on_lines 1 (settings 2)) 16 ≡ accepted (number 1 ++ number 5 ++ number 6 ++ number 10)
  pub five-two : blocks_given example (on_lines 5 (settings 2)) 16 ≡ accepted (number 1 ++ number 5 ++ number 6 ++ number 10)
  -- a line that is longer than all indices is one block
  pub sixty-four : blocks_given example (on_lines 64 (settings 1)) 8 ≡ accepted (number 1 ++ number 10)
  -- lines count from the least first: from 7 to 16, and not from a multiple of 4
  pub from_first : blocks_given (array 20 ++ loop 7 16 0 (ahead 0) ++ one ++ end) (on_lines 4 (settings 2)) 16
      ≡ accepted (number 7 ++ number 14 ++ number 15 ++ number 16)
  -- 11 by lines: T = 10 has five lines of 2, enough for five processors and not for six, though there are ten indices
  pub lines-five : refusal_on single 5 2 ≡ none
  pub lines-six : refusal_on single 6 2 ≡ met 11 0
  -- rounded up: four lines of 3, for four processors
  pub lines-up : refusal_on single 4 3 ≡ none
  -- 11 by the last block as it is cut: the example's threshold is 2; of four lines of 3 the last has one index, of three lines of 4 two
  pub last-cut : refusal_on example 4 3 ≡ met 11 0
  pub last-enough : refusal_on example 3 4 ≡ none
  -- of two lines of 9 the last has one; and three lines of 4 are too few for four processors, two of 5 for three
  pub nine-two : refusal_on example 2 9 ≡ met 11 0
  pub four-four : refusal_on example 4 4 ≡ met 11 0
  pub five-three : refusal_on example 3 5 ≡ met 11 0
  -- with one processor no block is too short
  pub one-processor : refusal_on example 1 64 ≡ none
  -- 17: W is 1 to 64
  pub no_line : refusal_on example 1 0 ≡ met 17 0
  pub longest-line : refusal_on example 1 64 ≡ none
  pub long-line : refusal_on example 1 65 ≡ met 17 0
  -- 9 before 17; 10 of P and of a named processor before 17; 17 before 11
  pub serial-line : refusal_on (itself 9) 1 0 ≡ naming 9 0 0 1
  pub processors-line : refusal_on example 0 0 ≡ met 10 0
  pub number-line : named_on example 2 65 2 ≡ met 10 0
  pub line-short : refusal_on example 11 0 ≡ met 17 0
  pub named-line : named_on example 2 65 1 ≡ met 17 0
  -- the example's lists on two processors, lines of 4
  pub fused-ranges-first : fused_ranges_given example (on_lines 4 (settings 2)) 0 16 ≡ accepted (number 1 ++ number 9 ++ number 1 ++ number 8)
  pub fused-ranges-last : fused_ranges_given example (on_lines 4 (settings 2)) 1 16 ≡ accepted (number 9 ++ number 11 ++ number 10 ++ number 11)
  pub peeled-ranges-first : peeled_ranges_given example (on_lines 4 (settings 2)) 0 16 ≡ accepted (number 0 ++ number 0 ++ number 8 ++ number 10)
  pub fused-last : fused_on example 2 4 1 ≡ iteration 0 9 ∷ iteration 0 10 ∷ iteration 1 10 ∷ []
  pub peeled-first : peeled_on example 2 4 0 ≡ iteration 1 8 ∷ iteration 1 9 ∷ []
  -- and its listing
  pub listing : text example (on_lines 4 (settings 2))
      ≡ ascii "loop 0 0 0\n"
      ++ ascii "loop 1 1 1\n"
      ++ ascii "block 0 1 8\n"
      ++ ascii "block 1 9 10\n"
      ++ ascii "fused 0 0 1 8\n"
      ++ ascii "fused 0 1 1 7\n"
      ++ ascii "fused 1 0 9 10\n"
      ++ ascii "fused 1 1 10 10\n"
      ++ ascii "peeled 0 1 8 9\n"
      ++ ascii "sweeps 6 5\n"

pub lines : Lines
unfolding refusal_on named_on fused_on peeled_on listed blocks_given list_given ranges_given planned_for fitted encoded four
lines = record {
  four-two = refl;
  four-three = refl;
  three-two = refl;
  three-three = refl;
  one-two = refl;
  five-two = refl;
  sixty-four = refl;
  from_first = refl;
  lines-five = refl;
  lines-six = refl;
  lines-up = refl;
  last-cut = refl;
  last-enough = refl;
  nine-two = refl;
  four-four = refl;
  five-three = refl;
  one-processor = refl;
  no_line = refl;
  longest-line = refl;
  long-line = refl;
  serial-line = refl;
  processors-line = refl;
  number-line = refl;
  line-short = refl;
  named-line = refl;
  fused-ranges-first = refl;
  fused-ranges-last = refl;
  peeled-ranges-first = refl;
  fused-last = refl;
  peeled-first = refl;
  listing = refl;
}
