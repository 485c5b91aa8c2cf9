-- Number and place for each ground that the record of a further statement (kind 7) can meet, and which of two is told. The tests come in this order:
-- 2, 6, 4, 1, array (5), offset (3), 7.
use Rattle.std.specs.Prelude.{◌≡◌, refl, List, [], ◌∷◌, ◌++◌, ℕ}
use Rattle.refusals.specs.Refusals.{none, met}
use Rattle.known.specs.Records.{array, ahead, back, statement, one, operation, add, end, times}
use Rattle.known.specs.Bytes.{begun}
use Rattle.known.specs.Computed.{refusal}

-- a loop from 0 to 0, 22 bytes with its first statement; each further one is 9 bytes
abbrev first : List ℕ
first = begun ++ one

abbrev next : List ℕ
next = statement 0 (ahead 0) ++ one

abbrev four : List ℕ
four = first ++ times 3 next

pub record Grounds : Type 0 where
  -- 2: before any loop; cut short it is 2, too, and where there is no such array
  pub before-loop : refusal (array 1 ++ statement 0 (ahead 0)) ≡ met 2 5
  pub kind-torn : refusal (7 ∷ []) ≡ met 2 0
  pub kind-array : refusal (array 1 ++ statement 9 (ahead 0)) ≡ met 2 5
  -- 6, at its own place: the body before it leaves no number, or two
  pub none_left : refusal (begun ++ statement 0 (ahead 0)) ≡ met 6 17
  pub two-left : refusal (first ++ one ++ statement 0 (ahead 0)) ≡ met 6 27
  pub second-unfinished : refusal (first ++ statement 0 (ahead 0) ++ statement 0 (ahead 0)) ≡ met 6 26
  pub last-unfinished : refusal (first ++ statement 0 (ahead 0) ++ end) ≡ met 6 26
  -- 6 before 4, before 1 and before 5
  pub body-crowd : refusal (first ++ times 2 next ++ times 2 (statement 0 (ahead 0))) ≡ met 6 44
  pub body-torn : refusal (begun ++ 7 ∷ []) ≡ met 6 17
  pub body-array : refusal (begun ++ statement 9 (ahead 0)) ≡ met 6 17
  -- 4: a loop has four statements, and no fifth
  pub fourth : refusal (four ++ end) ≡ none
  pub fifth : refusal (four ++ statement 0 (ahead 0)) ≡ met 4 49
  -- of the next loop there are four again
  pub each-loop : refusal (array 1 ++ times 2 (2 ∷ 0 ∷ 0 ∷ 0 ∷ 0 ∷ 0 ∷ 0 ∷ 0 ∷ 0 ∷ 0 ∷ 0 ∷ 0 ∷ one ++ times 3 next) ++ end) ≡ none
  -- 4 before 1 and before 5
  pub crowd-torn : refusal (four ++ 7 ∷ []) ≡ met 4 49
  pub crowd-array : refusal (four ++ statement 9 (ahead 0)) ≡ met 4 49
  -- 1: it is cut short; before 5
  pub torn : refusal (first ++ 7 ∷ 0 ∷ 0 ∷ []) ≡ met 1 22
  pub torn-array : refusal (first ++ 7 ∷ 9 ∷ []) ≡ met 1 22
  -- 5: no array of that number; before 3
  pub no-array : refusal (first ++ statement 1 (ahead 0)) ≡ met 5 22
  pub array-offset : refusal (first ++ statement 1 (ahead 256)) ≡ met 5 22
  -- 3: an offset outside -255 to 255; before 7
  pub offset : refusal (first ++ statement 0 (ahead 256)) ≡ met 3 22
  -- 7: some iteration of its loop reaches outside the array
  pub edge-past : refusal (first ++ statement 0 (ahead 1)) ≡ met 7 22
  pub edge-before : refusal (first ++ statement 0 back) ≡ met 7 22
  -- 32 items over all statements of a loop, sixteen and sixteen; a 33rd is 4
  pub items-most : refusal (first ++ times 15 (operation 5) ++ next ++ times 15 (operation 5) ++ end) ≡ none
  pub items-past : refusal (first ++ times 15 (operation 5) ++ next ++ times 16 (operation 5)) ≡ met 4 91
  -- waiting numbers begin anew: eight in each statement, no ninth, and none of the statement before
  pub eight-each : refusal (begun ++ times 8 one ++ times 7 add ++ statement 0 (ahead 0) ++ times 8 one ++ times 7 add ++ end) ≡ none
  pub ninth : refusal (first ++ statement 0 (ahead 0) ++ times 9 one) ≡ met 6 66
  pub none_before : refusal (first ++ statement 0 (ahead 0) ++ operation 5) ≡ met 6 26

pub grounds : Grounds
unfolding refusal
grounds = record {
  before-loop = refl;
  kind-torn = refl;
  kind-array = refl;
  none_left = refl;
  two-left = refl;
  second-unfinished = refl;
  last-unfinished = refl;
  body-crowd = refl;
  body-torn = refl;
  body-array = refl;
  fourth = refl;
  fifth = refl;
  each-loop = refl;
  crowd-torn = refl;
  crowd-array = refl;
  torn = refl;
  torn-array = refl;
  no-array = refl;
  array-offset = refl;
  offset = refl;
  edge-past = refl;
  edge-before = refl;
  items-most = refl;
  items-past = refl;
  eight-each = refl;
  ninth = refl;
  none_before = refl;
}
