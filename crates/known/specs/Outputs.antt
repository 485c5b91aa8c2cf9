-- What stands in lent bytes: the numbers asked for, four bytes each and nothing more.
use Rattle.std.specs.Prelude.{◌≡◌, refl, [], ◌∷◌, ◌++◌}
use Rattle.refusals.specs.Refusals.{met}
use Rattle.refusals.specs.Answers.{accepted, refused}
use Rattle.numbers.specs.Numbers.{four, encoded}
use Rattle.outputs.specs.Given.{fitted, final, count_of}
use Rattle.printing.specs.Printing.{listing_given}
use Rattle.plans.specs.Plans.{settings, planned_for}
use Rattle.facts.specs.Facts.{facts_given}
use Rattle.entries.specs.Entries.{amounts, thresholds, sweeps_given, blocks_given, list_given, fused_given, peeled_given, ranges_given, fused_ranges_given, peeled_ranges_given}
use Rattle.known.specs.Records.{array, ahead, behind, loop, one, end, number, times}
use Rattle.known.specs.Bytes.{example, apart}
use Rattle.known.specs.Computed.{listed}

pub record Outputs : Type 0 where
  -- the example: three arrays, two loops, 36 elements; each array's first element and its length; each loop's bounds
  pub example-facts : facts_given example 52
      ≡ accepted (
      number 3 ++ number 2 ++ number 36 ++ number 0 ++ number 12 ++ number 12 ++ number 12 ++ number 24 ++ number 12
      ++ number 1 ++ number 10 ++ number 1 ++ number 10)
  -- two arrays of 5 and 7, one loop from 2 to 4
  pub other-facts : facts_given (array 5 ++ array 7 ++ loop 2 4 1 (ahead 0) ++ one ++ end) 36
      ≡ accepted (number 2 ++ number 1 ++ number 12 ++ number 0 ++ number 5 ++ number 5 ++ number 7 ++ number 2 ++ number 4)
  -- shift and peel of each loop: 0 and 0, 2 and 0, 0 and 1
  pub shift-then-peel : amounts (apart 2 1) 24 ≡ accepted (number 0 ++ number 0 ++ number 2 ++ number 0 ++ number 0 ++ number 1)
  -- the example's threshold, its sweeps before and after, the first and the last index of each of two blocks
  pub threshold-bytes : thresholds example 4 ≡ accepted (2 ∷ 0 ∷ 0 ∷ 0 ∷ [])
  pub before-then-after : sweeps_given example 8 ≡ accepted (number 6 ++ number 5)
  pub first-then-last : blocks_given example (settings 2) 16 ≡ accepted (number 1 ++ number 5 ++ number 6 ++ number 10)
  -- each of sixteen arrays counts: the last one alone is touched, and written
  pub sixteenth : sweeps_given (times 16 (array 1) ++ loop 0 0 15 (ahead 0) ++ one ++ end) 8 ≡ accepted (number 2 ++ number 2)
  -- of a table whose one block has the indices 255 to 65,790
  pub large-numbers : blocks_given (array 65536 ++ loop 255 65790 0 (behind 255) ++ one ++ end) (settings 1) 8
      ≡ accepted (255 ∷ 0 ∷ 0 ∷ 0 ∷ 254 ∷ 0 ∷ 1 ∷ 0 ∷ [])
  -- loop and iteration of each in processor 0's lists: 18 numbers, and 4
  pub fused-bytes : fused_given example (settings 2) 0 72
      ≡ accepted (
      number 0 ++ number 1 ++ number 0 ++ number 2 ++ number 1 ++ number 1 ++ number 0 ++ number 3 ++ number 1 ++ number 2
      ++ number 0 ++ number 4 ++ number 1 ++ number 3 ++ number 0 ++ number 5 ++ number 1 ++ number 4)
  pub peeled-bytes : peeled_given example (settings 2) 0 16 ≡ accepted (number 1 ++ number 5 ++ number 1 ++ number 6)
  -- the example's ranges on two processors, a first index and one past the last for each loop, 0 and 0 where a range is empty
  pub fused-ranges-first : fused_ranges_given example (settings 2) 0 16 ≡ accepted (number 1 ++ number 6 ++ number 1 ++ number 5)
  pub fused-ranges-last : fused_ranges_given example (settings 2) 1 16 ≡ accepted (number 6 ++ number 11 ++ number 7 ++ number 11)
  pub peeled-ranges-first : peeled_ranges_given example (settings 2) 0 16 ≡ accepted (number 0 ++ number 0 ++ number 5 ++ number 7)
  pub peeled-ranges-last : peeled_ranges_given example (settings 2) 1 16 ≡ accepted (number 0 ++ number 0 ++ number 0 ++ number 0)
  -- a byte less is 13 (of the threshold: Calls)
  pub facts-short : facts_given example 51 ≡ refused (met 13 0)
  pub fused-ranges-short : fused_ranges_given example (settings 2) 0 15 ≡ refused (met 13 0)
  pub amounts-short : amounts (apart 2 1) 23 ≡ refused (met 13 0)
  pub sweeps-short : sweeps_given example 7 ≡ refused (met 13 0)
  pub blocks-short : blocks_given example (settings 2) 15 ≡ refused (met 13 0)
  pub fused-short : fused_given example (settings 2) 0 71 ≡ refused (met 13 0)
  pub peeled-short : peeled_given example (settings 2) 0 15 ≡ refused (met 13 0)
  -- the example's listing has 131 bytes; where the plan is refused the call is, too, with no line, and 13 comes last
  pub listing-fits : count_of (listing_given example (settings 2) 131) ≡ 131
  pub listing-short : listing_given example (settings 2) 130 ≡ refused (met 13 0)
  pub listing-refused : listing_given example (settings 6) 0 ≡ refused (met 11 0)
  -- bytes past the output stay; a refused call leaves all as found
  pub past-stays : final (thresholds example 6) (times 6 (9 ∷ [])) ≡ 2 ∷ 0 ∷ 0 ∷ 0 ∷ 9 ∷ 9 ∷ []
  pub refused-stays : final (thresholds example 3) (times 3 (9 ∷ [])) ≡ 9 ∷ 9 ∷ 9 ∷ []

pub outputs : Outputs
unfolding listed facts_given amounts thresholds sweeps_given blocks_given list_given ranges_given planned_for listing_given fitted final encoded four
outputs = record {
  example-facts = refl;
  other-facts = refl;
  fused-ranges-first = refl;
  fused-ranges-last = refl;
  peeled-ranges-first = refl;
  peeled-ranges-last = refl;
  facts-short = refl;
  fused-ranges-short = refl;
  shift-then-peel = refl;
  threshold-bytes = refl;
  before-then-after = refl;
  first-then-last = refl;
  sixteenth = refl;
  large-numbers = refl;
  fused-bytes = refl;
  peeled-bytes = refl;
  amounts-short = refl;
  sweeps-short = refl;
  blocks-short = refl;
  fused-short = refl;
  peeled-short = refl;
  listing-fits = refl;
  listing-short = refl;
  listing-refused = refl;
  past-stays = refl;
  refused-stays = refl;
}
