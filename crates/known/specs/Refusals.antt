-- Number and place for each ground that a table can meet, 1 to 9, from bytes: the examples of docs/REFUSALS.md and the other cases.
use Rattle.std.specs.Prelude.{◌≡◌, refl, [], ◌∷◌, ◌++◌}
use Rattle.refusals.specs.Refusals.{none, met, naming}
use Rattle.known.specs.Records.{array, ahead, behind, back, loop, read, one, operation, add, end, times}
use Rattle.known.specs.Bytes.{begun}
use Rattle.known.specs.Computed.{refusal}

pub record Refusals : Type 0 where
  -- 1 torn: bytes end inside a record or before the end record. An absent kind byte carries the input's length
  pub empty : refusal [] ≡ met 1 0
  pub no_end : refusal (array 1) ≡ met 1 5
  pub cut_inside : refusal (array 1 ++ 1 ∷ 1 ∷ []) ≡ met 1 5
  pub last-byte-absent : refusal (1 ∷ 1 ∷ 0 ∷ 0 ∷ []) ≡ met 1 0
  -- 2 kind: kind unknown or out of its order, or no array or loop before end
  pub end-alone : refusal (6 ∷ []) ≡ met 2 0
  pub no_kind : refusal (0 ∷ []) ≡ met 2 0
  pub eighth-kind : refusal (8 ∷ []) ≡ met 2 0
  pub no_loop_lem : refusal (array 1 ++ end) ≡ met 2 5
  pub item-before-loop : refusal (array 1 ++ one) ≡ met 2 5
  pub read-before-loop : refusal (array 1 ++ read 0 (ahead 0)) ≡ met 2 5
  pub operation-before-loop : refusal (array 1 ++ operation 5) ≡ met 2 5
  pub array-after-loop : refusal (begun ++ one ++ array 1) ≡ met 2 22
  -- 3 field: a field outside its range, or first above last (each range: Limits)
  pub no-element : refusal (1 ∷ 0 ∷ 0 ∷ 0 ∷ 0 ∷ []) ≡ met 3 0
  -- 4 crowd: one array, loop, item or element too many (each: Limits)
  pub too_many : refusal
      (1 ∷ 0 ∷ 0 ∷ 1 ∷ 0 ∷ 1 ∷ 0 ∷ 0 ∷ 1 ∷ 0 ∷ 1 ∷ 0 ∷ 0 ∷ 1 ∷ 0 ∷ 1 ∷ 0 ∷ 0 ∷ 1 ∷ 0 ∷ 1 ∷ 1 ∷ 0 ∷ 0 ∷ 0 ∷ []) ≡ met 4 20
  -- 5 array: no array of that number. A loop before any array is not 2
  pub no-array : refusal (2 ∷ 0 ∷ 0 ∷ 0 ∷ 0 ∷ 0 ∷ 0 ∷ 0 ∷ 0 ∷ 0 ∷ 0 ∷ 0 ∷ []) ≡ met 5 0
  pub no-array-read : refusal (begun ++ read 1 (ahead 0)) ≡ met 5 17
  -- 6 body: too few waiting numbers, a ninth (Limits), or not one left
  pub none_left : refusal (1 ∷ 1 ∷ 0 ∷ 0 ∷ 0 ∷ 2 ∷ 0 ∷ 0 ∷ 0 ∷ 0 ∷ 0 ∷ 0 ∷ 0 ∷ 0 ∷ 0 ∷ 0 ∷ 0 ∷ 6 ∷ []) ≡ met 6 17
  pub two-left : refusal (begun ++ one ++ one ++ end) ≡ met 6 27
  pub two-left-at-loop : refusal (begun ++ one ++ one ++ loop 0 0 0 (ahead 0)) ≡ met 6 27
  pub too_few : refusal (begun ++ one ++ add) ≡ met 6 22
  pub none-to-negate : refusal (begun ++ operation 5) ≡ met 6 17
  -- 7 edge: some iteration reaches outside the array
  pub past-the-array : refusal (1 ∷ 1 ∷ 0 ∷ 0 ∷ 0 ∷ 2 ∷ 0 ∷ 0 ∷ 0 ∷ 0 ∷ 1 ∷ 0 ∷ 0 ∷ 0 ∷ 0 ∷ 0 ∷ 0 ∷ []) ≡ met 7 5
  pub before-the-array : refusal (array 1 ++ loop 0 0 0 back) ≡ met 7 5
  pub read-past-the-array : refusal (begun ++ read 0 (ahead 1)) ≡ met 7 17
  pub read-before-the-array : refusal (begun ++ read 0 back) ≡ met 7 17
  -- 8 tail: bytes follow the end record. The place is the first byte too many, not the last and not that of the end record
  pub tail : refusal (1 ∷ 1 ∷ 0 ∷ 0 ∷ 0 ∷ 2 ∷ 0 ∷ 0 ∷ 0 ∷ 0 ∷ 0 ∷ 0 ∷ 0 ∷ 0 ∷ 0 ∷ 0 ∷ 0 ∷ 3 ∷ 0 ∷ 0 ∷ 0 ∷ 6 ∷ 0 ∷ []) ≡ met 8 22
  pub no-tail : refusal (begun ++ read 0 (ahead 0) ++ end) ≡ none
  pub long-tail : refusal (begun ++ read 0 (ahead 0) ++ end ++ times 3 end) ≡ met 8 22
  -- 9 serial: two different iterations of one loop meet at an element, one storing. It carries the lowest such loop, and names a pair
  -- of its references; with one statement the destination, 0, and the read's number and one
  pub serial : refusal (1 ∷ 3 ∷ 0 ∷ 0 ∷ 0 ∷ 2 ∷ 0 ∷ 0 ∷ 0 ∷ 0 ∷ 1 ∷ 0 ∷ 0 ∷ 0 ∷ 0 ∷ 0 ∷ 0 ∷ 3 ∷ 0 ∷ 1 ∷ 0 ∷ 6 ∷ []) ≡ naming 9 0 0 1
  pub third-read : refusal
      (1 ∷ 12 ∷ 0 ∷ 0 ∷ 0 ∷ 1 ∷ 12 ∷ 0 ∷ 0 ∷ 0 ∷ 2 ∷ 1 ∷ 0 ∷ 0 ∷ 0 ∷ 10 ∷ 0 ∷ 0 ∷ 0 ∷ 0 ∷ 0 ∷ 0 ∷ 3 ∷ 1 ∷ 0 ∷ 0 ∷ 3 ∷ 0 ∷ 0 ∷ 0 ∷ 5 ∷ 1
      ∷ 3 ∷ 0 ∷ 255 ∷ 255 ∷ 5 ∷ 1 ∷ 6 ∷ [])
      ≡ naming 9 0 0 3
  -- 11 to 20, A0[i] = A0[i-9] meets, and A0[i-10] does not; of two such loops it is the lower one
  pub nine-back : refusal (array 21 ++ loop 11 20 0 (ahead 0) ++ read 0 (behind 9) ++ end) ≡ naming 9 0 0 1
  pub ten-back : refusal (array 21 ++ loop 11 20 0 (ahead 0) ++ read 0 (behind 10) ++ end) ≡ none
  pub lower_loop : refusal (array 3 ++ times 2 (loop 0 1 0 (ahead 0) ++ read 0 (ahead 1)) ++ end) ≡ naming 9 0 0 1
  -- a constant is no read: A0[i] = 1 + A0[i+1]
  pub constant-uncounted : refusal (array 3 ++ loop 0 1 0 (ahead 0) ++ one ++ read 0 (ahead 1) ++ add ++ end) ≡ naming 9 0 0 1

pub refusals : Refusals
unfolding refusal
refusals = record {
  empty = refl;
  no_end = refl;
  cut_inside = refl;
  last-byte-absent = refl;
  end-alone = refl;
  no_kind = refl;
  eighth-kind = refl;
  no_loop_lem = refl;
  item-before-loop = refl;
  read-before-loop = refl;
  operation-before-loop = refl;
  array-after-loop = refl;
  no-element = refl;
  too_many = refl;
  no-array = refl;
  no-array-read = refl;
  none_left = refl;
  two-left = refl;
  two-left-at-loop = refl;
  too_few = refl;
  none-to-negate = refl;
  past-the-array = refl;
  before-the-array = refl;
  read-past-the-array = refl;
  read-before-the-array = refl;
  tail = refl;
  no-tail = refl;
  long-tail = refl;
  serial = refl;
  third-read = refl;
  nine-back = refl;
  ten-back = refl;
  lower_loop = refl;
  constant-uncounted = refl;
}
