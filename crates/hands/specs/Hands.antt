-- Plans by hand, from bytes and by computation: which are accepted, 19 and 20 with their pair and their order, 11 by a plan's own threshold.
use Rattle.std.specs.Prelude.{ℕ, ◌≡◌, refl, List, [], ◌∷◌, ◌++◌}
use Rattle.refusals.specs.declared.Refusal.{Refusal}
use Rattle.refusals.specs.Refusals.{none, met, naming}
use Rattle.refusals.specs.Answers.{refusal_of}
use Rattle.chains.specs.Maximum.{maximum_below}
use Rattle.plans.specs.Plans.{settings, on_lines, with_plan, planned, planned_for}
use Rattle.legality.specs.Written.{amounts_in}
use Rattle.plans.specs.Checking.{threshold_in}
use Rattle.known.specs.Records.{array, ahead, store, one, add, end, number, times}
use Rattle.known.specs.Bytes.{beside, example, three, store_after_read, stored_then_read, itself}
use Rattle.known.specs.Computed.{refusal_for}

-- a plan by hand for two loops: shift and peel of the first, shift and peel of the second
abbrev pub plan2 : ℕ → ℕ → ℕ → ℕ → List ℕ
plan2 a b c d = number a ++ number b ++ number c ++ number d

-- eight numbers, from 1 to 8
abbrev pub eight : List ℕ
eight = plan2 1 2 3 4 ++ plan2 5 6 7 8

-- what it is refused with, for P processors and lines of one index
unfoldable pub handed_to : List ℕ → ℕ → List ℕ → Refusal
unfolding refusal_for
handed_to s P bs = refusal_of (planned s (with_plan bs (settings P)))

-- three loops: the last reads the first one's array at −1 and +1, and the middle one nothing; the last reads both others'; both later ones read the first one's
abbrev pub across : List ℕ
across = array 12 ++ array 12 ++ array 12 ++ store 0 ++ one ++ store 1 ++ one ++ store 2 ++ beside 0 ++ end

abbrev pub from_both : List ℕ
from_both = array 12 ++ array 12 ++ array 12 ++ store 0 ++ one ++ store 1 ++ one ++ store 2 ++ beside 0 ++ beside 1 ++ add ++ end

abbrev pub to_both : List ℕ
to_both = array 12 ++ array 12 ++ array 12 ++ store 0 ++ one ++ store 1 ++ beside 0 ++ store 2 ++ beside 0 ++ end

pub record Hands : Type 0 where
  -- the example, P = 1: its own numbers, and numbers above them; what is met exactly is met
  pub own : handed_to example 1 (plan2 0 0 1 1) ≡ none
  pub exactly : handed_to example 1 (plan2 3 2 4 3) ≡ none
  -- the later shift one below, the later peel one below; the other one being large enough
  pub shift-below : handed_to example 1 (plan2 3 2 3 3) ≡ naming 20 0 1 0
  pub peel-below : handed_to example 1 (plan2 3 2 4 2) ≡ naming 20 0 1 0
  pub zeros : handed_to example 1 (plan2 0 0 0 0) ≡ naming 20 0 1 0
  -- an earlier loop may have any numbers, if the later one has them too
  pub first-large : handed_to example 1 (plan2 9999 9999 10000 10000) ≡ none
  -- 19: 10,000 is the most, of a shift and of a peel, of the first loop and of the last
  pub most : handed_to example 1 (plan2 0 0 10000 10000) ≡ none
  pub shift-above : handed_to example 1 (plan2 0 0 10001 1) ≡ met 19 0
  pub peel-above : handed_to example 1 (plan2 0 0 1 10001) ≡ met 19 0
  pub first-shift-above : handed_to example 1 (plan2 10001 0 0 0) ≡ met 19 0
  pub highest : handed_to example 1 (plan2 0 0 1 4294967295) ≡ met 19 0
  -- 19: 8 bytes for each loop, neither fewer nor more, and a plan of none is one that is given
  pub no_bytes : handed_to example 1 [] ≡ met 19 0
  pub one-loop : handed_to example 1 (number 0 ++ number 0) ≡ met 19 0
  pub byte-less : handed_to example 1 (number 0 ++ number 0 ++ number 1 ++ 1 ∷ 0 ∷ 0 ∷ []) ≡ met 19 0
  pub byte_more : handed_to example 1 (plan2 0 0 1 1 ++ 0 ∷ []) ≡ met 19 0
  pub three-loops : handed_to example 1 (plan2 0 0 1 1 ++ number 2 ++ number 2) ≡ met 19 0
  -- the first pair of loops: the lowest earlier loop, and with it the lowest later one. Two pairs of neighbours; then one pair that is none
  pub first-pair : handed_to three 1 (plan2 0 0 0 0 ++ number 0 ++ number 0) ≡ naming 20 0 1 0
  pub second-pair : handed_to three 1 (plan2 0 0 1 1 ++ number 1 ++ number 2) ≡ naming 20 1 2 0
  pub all-met : handed_to three 1 (plan2 0 0 1 1 ++ number 2 ++ number 2) ≡ none
  pub far-pair : handed_to across 1 (plan2 0 0 0 0 ++ number 0 ++ number 0) ≡ naming 20 0 2 0
  -- from loops 0 and 1 to loop 2: the lower of the two; and the other one where the first is met
  pub lower-earlier : handed_to from_both 1 (plan2 0 0 0 0 ++ number 0 ++ number 0) ≡ naming 20 0 2 0
  pub other-earlier : handed_to from_both 1 (plan2 0 0 5 5 ++ number 1 ++ number 1) ≡ naming 20 1 2 0
  -- from loop 0 to loops 1 and 2: the lower of the two, and the other one where the first is met
  pub lower-later : handed_to to_both 1 (plan2 0 0 0 0 ++ number 0 ++ number 0) ≡ naming 20 0 1 0
  pub other-later : handed_to to_both 1 (plan2 0 0 1 1 ++ number 0 ++ number 9) ≡ naming 20 0 2 0
  -- loops that never meet make no dependence, so nothing has to be met
  pub never-meet : handed_to (stored_then_read 1 6 5 9 (ahead 2)) 1 (plan2 0 0 0 0) ≡ none
  pub meet-once : handed_to (stored_then_read 1 7 5 9 (ahead 2)) 1 (plan2 0 0 0 0) ≡ naming 20 0 1 0
  -- a store after a read: the peel
  pub store-after-read : handed_to store_after_read 1 (plan2 0 0 0 1) ≡ naming 20 0 1 0
  pub store-after-read-met : handed_to store_after_read 1 (plan2 0 0 0 2) ≡ none
  -- the order: 9, 19, 20, 10, 17, 11
  pub nine-first : handed_to (itself 9) 1 [] ≡ naming 9 0 0 1
  pub nineteen-before-twenty : handed_to example 1 (plan2 10001 0 0 0) ≡ met 19 0
  pub nineteen-before-ten : handed_to example 0 [] ≡ met 19 0
  pub twenty-before-ten : handed_to example 0 (plan2 0 0 0 0) ≡ naming 20 0 1 0
  pub ten : handed_to example 0 (plan2 0 0 1 1) ≡ met 10 0
  pub twenty-before-seventeen : refusal_of (planned example (with_plan (plan2 0 0 0 0) (on_lines 0 (settings 1)))) ≡ naming 20 0 1 0
  pub seventeen : refusal_of (planned example (with_plan (plan2 0 0 1 1) (on_lines 0 (settings 1)))) ≡ met 17 0
  pub named-nineteen : refusal_of (planned_for example (with_plan [] (settings 2)) 2) ≡ met 19 0
  pub named-ten : refusal_of (planned_for example (with_plan (plan2 0 0 1 1) (settings 2)) 2) ≡ met 10 0
  -- 11 by the plan's own threshold: two blocks of 5 hold 5 and not 6, five blocks of 2 hold the example's own 2 and not 3
  pub five-holds : handed_to example 2 (plan2 0 0 2 3) ≡ none
  pub six-short : handed_to example 2 (plan2 0 0 3 3) ≡ met 11 0
  pub first-loop-short : handed_to example 2 (plan2 6 0 7 1) ≡ met 11 0
  pub five-own : handed_to example 5 (plan2 0 0 1 1) ≡ none
  pub five-three : handed_to example 5 (plan2 0 0 2 1) ≡ met 11 0
  -- what asking for a plan tells: its threshold, and 0 of a refusal
  pub threshold-hand : threshold_in (planned example (with_plan (plan2 0 0 2 3) (settings 2))) ≡ 5
  pub threshold-large : threshold_in (planned example (with_plan (plan2 0 0 10000 10000) (settings 1))) ≡ 20000
  pub threshold-first : threshold_in (planned example (with_plan (plan2 9 1 10 2) (settings 1))) ≡ 12
  pub threshold-own : threshold_in (planned example (settings 2)) ≡ 2
  pub threshold-refused : threshold_in (planned example (with_plan (plan2 0 0 3 3) (settings 2))) ≡ 0
  -- numbers have their least byte first: 256, and 1 in its highest byte, which is above 10,000
  pub second-byte : threshold_in (planned example (with_plan (number 0 ++ number 0 ++ 0 ∷ 1 ∷ 0 ∷ 0 ∷ number 1) (settings 1))) ≡ 257
  pub last_byte : handed_to example 1 (number 0 ++ number 0 ++ number 1 ++ 1 ∷ 0 ∷ 0 ∷ 1 ∷ []) ≡ met 19 0
  -- read with a stride: of loops with four numbers each the first two, and the last two
  pub stride-first : (amounts_in 4 0 2 eight).shifts ≡ 1 ∷ 5 ∷ times 14 (0 ∷ [])
  pub stride-first-peels : (amounts_in 4 0 2 eight).peels ≡ 2 ∷ 6 ∷ times 14 (0 ∷ [])
  pub stride-second : (amounts_in 4 2 2 eight).shifts ≡ 3 ∷ 7 ∷ times 14 (0 ∷ [])
  pub stride-second-peels : (amounts_in 4 2 2 eight).peels ≡ 4 ∷ 8 ∷ times 14 (0 ∷ [])
  -- any number but 0 says that a plan is given; without it no byte is looked at; behind its bytes neither
  pub given-seven : refusal_of (planned example (record { processors = 1; line = 1; given = 7; size = 16; plan = plan2 0 0 0 0 })) ≡ naming 20 0 1 0
  pub not-given : threshold_in (planned example (record { processors = 1; line = 1; given = 0; size = 16; plan = plan2 0 0 0 0 })) ≡ 2
  pub bytes-behind : refusal_of (planned example (record { processors = 1; line = 1; given = 1; size = 16; plan = plan2 0 0 1 1 ++ times 112 (255 ∷ []) })) ≡ none
  pub size-alone : refusal_of (planned example (record { processors = 1; line = 1; given = 1; size = 128; plan = plan2 0 0 1 1 ++ times 112 (0 ∷ []) })) ≡ met 19 0

pub hands : Hands
unfolding handed_to planned_for maximum_below
hands = record {
  own = refl;
  exactly = refl;
  shift-below = refl;
  peel-below = refl;
  zeros = refl;
  first-large = refl;
  most = refl;
  shift-above = refl;
  peel-above = refl;
  first-shift-above = refl;
  highest = refl;
  no_bytes = refl;
  one-loop = refl;
  byte-less = refl;
  byte_more = refl;
  three-loops = refl;
  first-pair = refl;
  second-pair = refl;
  all-met = refl;
  far-pair = refl;
  lower-earlier = refl;
  other-earlier = refl;
  lower-later = refl;
  other-later = refl;
  never-meet = refl;
  meet-once = refl;
  store-after-read = refl;
  store-after-read-met = refl;
  nine-first = refl;
  nineteen-before-twenty = refl;
  nineteen-before-ten = refl;
  twenty-before-ten = refl;
  ten = refl;
  twenty-before-seventeen = refl;
  seventeen = refl;
  named-nineteen = refl;
  named-ten = refl;
  five-holds = refl;
  six-short = refl;
  first-loop-short = refl;
  five-own = refl;
  five-three = refl;
  threshold-hand = refl;
  threshold-large = refl;
  threshold-first = refl;
  threshold-own = refl;
  threshold-refused = refl;
  second-byte = refl;
  last_byte = refl;
  stride-first = refl;
  stride-first-peels = refl;
  stride-second = refl;
  stride-second-peels = refl;
  given-seven = refl;
  not-given = refl;
  bytes-behind = refl;
  size-alone = refl;
}
