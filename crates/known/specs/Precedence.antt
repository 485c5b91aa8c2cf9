-- Where a table meets several grounds, the earliest record decides, and in one record docs/TABLE.md's order: an example for each two that can meet.
use Rattle.std.specs.Prelude.{◌≡◌, refl, [], ◌∷◌, ◌++◌}
use Rattle.refusals.specs.Refusals.{met}
use Rattle.known.specs.Records.{number, array, ahead, loop, read, one, operation, times}
use Rattle.known.specs.Bytes.{begun, loops, itself}
use Rattle.known.specs.Computed.{refusal}

pub record Precedence : Type 0 where
  -- records are tested left to right: 3 in the first, 2 in the second
  pub earlier-record : refusal (array 0 ++ 7 ∷ []) ≡ met 3 0
  -- 2 before 6 for a body left unfinished: an array behind a loop with no item; before 4: a 17th array behind a loop; before 1: a read cut
  -- short, before any loop
  pub kind-body : refusal (begun ++ array 1) ≡ met 2 17
  pub kind-crowd : refusal (times 16 (array 1) ++ loop 0 0 0 (ahead 0) ++ one ++ array 1) ≡ met 2 97
  pub kind-torn : refusal (3 ∷ []) ≡ met 2 0
  -- 6 for a body left unfinished before 4: a 17th loop behind a loop with no item; before 1: a loop cut short; before 5: a loop with no such array
  pub body-crowd : refusal (loops 1 15 ++ times 2 (loop 0 0 0 (ahead 0))) ≡ met 6 272
  pub body-torn : refusal (begun ++ 2 ∷ []) ≡ met 6 17
  pub body-array : refusal (begun ++ loop 0 0 1 (ahead 0)) ≡ met 6 17
  -- 4 before 1: a 17th array, a 17th loop and a 33rd item cut short; before fields: a 17th array of no element, a 33rd item that is no operation
  pub crowd-torn-array : refusal (times 16 (array 1) ++ 1 ∷ []) ≡ met 4 80
  pub crowd-torn-loop : refusal (loops 1 16 ++ 2 ∷ []) ≡ met 4 277
  pub crowd-torn-item : refusal (begun ++ one ++ times 31 (operation 5) ++ 3 ∷ []) ≡ met 4 84
  pub crowd-field-array : refusal (times 16 (array 1) ++ array 0) ≡ met 4 80
  pub crowd-field-item : refusal (begun ++ one ++ times 31 (operation 5) ++ operation 6) ≡ met 4 84
  -- 1 before fields: a loop cut short behind a last that is too large, a read cut short behind the number of no array
  pub torn-field : refusal (array 1 ++ 2 ∷ number 0 ++ number 131072) ≡ met 1 5
  pub torn-array : refusal (begun ++ 3 ∷ 9 ∷ []) ≡ met 1 17
  -- fields in byte order (3 and 5). A loop: last too large or first above last, and no such array; no such array, and an offset too large
  pub last-array : refusal (array 1 ++ loop 0 131072 9 (ahead 0)) ≡ met 3 5
  pub first-array : refusal (array 1 ++ loop 1 0 9 (ahead 0)) ≡ met 3 5
  pub array-offset : refusal (array 1 ++ loop 0 0 9 (ahead 256)) ≡ met 5 5
  -- a read: no such array, and an offset too large
  pub read-array-offset : refusal (begun ++ read 9 (ahead 256)) ≡ met 5 17
  -- fields before the element total (4): an array too long, and too many elements in all
  pub length-total : refusal (times 4 (array 65536) ++ array 65537) ≡ met 3 20
  -- fields before 6: a ninth number read from no array or at an offset too large; no operation, and too few numbers wait
  pub array-ninth : refusal (begun ++ times 8 one ++ read 9 (ahead 0)) ≡ met 5 57
  pub offset-ninth : refusal (begun ++ times 8 one ++ read 0 (ahead 256)) ≡ met 3 57
  pub operation-few : refusal (begun ++ operation 6) ≡ met 3 17
  -- fields before 7: an offset too large, and outside the array (last too large: Limits)
  pub offset-edge : refusal (array 1 ++ loop 0 0 0 (ahead 256)) ≡ met 3 5
  pub read-offset-edge : refusal (begun ++ read 0 (ahead 256)) ≡ met 3 17
  -- 6 before 7: a ninth number, read outside the array. (The element total is of arrays, 6 and 7 are of loops and items.)
  pub ninth-edge : refusal (begun ++ times 8 one ++ read 0 (ahead 1)) ≡ met 6 57
  -- then 8, then 9
  pub tail-serial : refusal (itself 9 ++ 0 ∷ []) ≡ met 8 22

pub precedence : Precedence
unfolding refusal
precedence = record {
  earlier-record = refl;
  kind-body = refl;
  kind-crowd = refl;
  kind-torn = refl;
  body-crowd = refl;
  body-torn = refl;
  body-array = refl;
  crowd-torn-array = refl;
  crowd-torn-loop = refl;
  crowd-torn-item = refl;
  crowd-field-array = refl;
  crowd-field-item = refl;
  torn-field = refl;
  torn-array = refl;
  last-array = refl;
  first-array = refl;
  array-offset = refl;
  read-array-offset = refl;
  length-total = refl;
  array-ninth = refl;
  offset-ninth = refl;
  operation-few = refl;
  offset-edge = refl;
  read-offset-edge = refl;
  ninth-edge = refl;
  tail-serial = refl;
}
