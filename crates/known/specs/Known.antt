-- The known results, from bytes and by computation, in docs/TABLE.md's order, and one of what 9 names.
use Rattle.std.specs.Prelude.{◌≡◌, refl, [], ◌∷◌}
use Rattle.std.specs.Float.{nan, binary64}
use Rattle.std.specs.Float.Ieee.{to_bits}
use Rattle.refusals.specs.Refusals.{none, met, naming}
use Rattle.refusals.specs.Answers.{refusal_of}
use Rattle.serial.specs.Serial.{table}
use Rattle.plans.specs.Plans.{settings, planned}
use Rattle.plain.specs.Plain.{plain_memory}
use Rattle.known.specs.Records.{ahead}
use Rattle.known.specs.Bytes.{example, three, minus_one_then_zero, store_after_read, stored_then_read, itself, several_reads, single, zero_by_zero}
use Rattle.known.specs.Computed.{refusal_for, shifts_in, peels_in, threshold_in, sizes_in}
use Rattle.known.specs.Memory.{whole, element, bits}

pub record Known : Type 0 where
  -- the example's 61 bytes: three arrays; loop 0; loop 1 and the end
  pub example-bytes : example
      ≡ 1 ∷ 12 ∷ 0 ∷ 0 ∷ 0 ∷ 1 ∷ 12 ∷ 0 ∷ 0 ∷ 0 ∷ 1 ∷ 12 ∷ 0 ∷ 0 ∷ 0
      ∷ 2 ∷ 1 ∷ 0 ∷ 0 ∷ 0 ∷ 10 ∷ 0 ∷ 0 ∷ 0 ∷ 0 ∷ 0 ∷ 0 ∷ 3 ∷ 1 ∷ 0 ∷ 0 ∷ 4 ∷ 1 ∷ 0 ∷ 0 ∷ 0 ∷ 5 ∷ 1
      ∷ 2 ∷ 1 ∷ 0 ∷ 0 ∷ 0 ∷ 10 ∷ 0 ∷ 0 ∷ 0 ∷ 2 ∷ 0 ∷ 0 ∷ 3 ∷ 0 ∷ 255 ∷ 255 ∷ 3 ∷ 0 ∷ 1 ∷ 0 ∷ 5 ∷ 1 ∷ 6
      ∷ []
  -- the example: threshold 2; P = 5 accepted, P = 6 refused 11
  pub example-threshold : threshold_in example ≡ 2 ∷ []
  pub example-five : refusal_of (planned example (settings 5)) ≡ none
  pub example-six : refusal_of (planned example (settings 6)) ≡ met 11 0
  -- with every element its own index first, A2[1] = 3, A2[5] = 12, A2[10] = 21
  pub element-1 : element 1 ≡ whole 3
  pub element-5 : element 5 ≡ whole 12
  pub element-10 : element 10 ≡ whole 21
  -- three loops, each reading the last one's array at −1 and +1: shifts and peels 0, 1, 2; threshold 4
  pub three-shifts : shifts_in three ≡ 0 ∷ 1 ∷ 2 ∷ []
  pub three-peels : peels_in three ≡ 0 ∷ 1 ∷ 2 ∷ []
  pub three-threshold : threshold_in three ≡ 4 ∷ []
  -- distances −1 then 0: shifts 0, 1, 1
  pub distances : shifts_in minus_one_then_zero ≡ 0 ∷ 1 ∷ 1 ∷ []
  -- loop 0 reads A1[i+2], loop 1 stores A1[i]: peel 2
  pub store-after-read : peels_in store_after_read ≡ 0 ∷ 2 ∷ []
  -- loop 0 stores A0[i], loop 1, 5 to 9, reads A0[i+2]: with loop 0 from 1 to 6 they never meet, shift 0; from 1 to 7 shift 2
  pub never-meet : shifts_in (stored_then_read 1 6 5 9 (ahead 2)) ≡ 0 ∷ 0 ∷ []
  pub meet-once : shifts_in (stored_then_read 1 7 5 9 (ahead 2)) ≡ 0 ∷ 2 ∷ []
  -- 1 to 10, A0 of 21 elements, A0[i] = A0[i+9]: refused 9; with A0[i+10] accepted
  pub serial-nine : refusal_of (table (itself 9)) ≡ naming 9 0 0 1
  pub serial-ten : refusal_of (table (itself 10)) ≡ none
  -- of the references 0 to 5 of loop 1, 4 and 5 collide with the destination, 0: 4 is named
  pub lowest-partner : refusal_of (table several_reads) ≡ naming 9 1 0 4
  -- T = 10, P = 3: blocks of 4, 3, 3
  pub three-blocks : sizes_in single ≡ 4 ∷ 3 ∷ 3 ∷ []
  -- T = 10, threshold 0: P = 10 accepted, 11 refused
  pub single-threshold : threshold_in single ≡ 0 ∷ []
  pub single-ten : refusal_of (planned single (settings 10)) ≡ none
  pub single-eleven : refusal_of (planned single (settings 11)) ≡ met 11 0
  -- 0 divided by 0 stores 7FF8000000000000
  pub zero_by_zero_lem : plain_memory zero_by_zero (whole 1 ∷ []) ≡ nan ∷ []
  pub nan-bits : to_bits binary64 nan ≡ 0x7FF8000000000000

pub known : Known
unfolding refusal_for element bits
known = record {
  example-bytes = refl;
  example-threshold = refl;
  example-five = refl;
  example-six = refl;
  element-1 = refl;
  element-5 = refl;
  element-10 = refl;
  three-shifts = refl;
  three-peels = refl;
  three-threshold = refl;
  distances = refl;
  store-after-read = refl;
  never-meet = refl;
  meet-once = refl;
  serial-nine = refl;
  serial-ten = refl;
  lowest-partner = refl;
  three-blocks = refl;
  single-threshold = refl;
  single-ten = refl;
  single-eleven = refl;
  zero_by_zero_lem = refl;
  nan-bits = refl;
}
