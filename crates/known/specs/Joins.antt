-- Two tables joined: the bytes, and what is told where they can't be.
use Rattle.std.specs.Prelude.{◌≡◌, refl, [], ◌∷◌, ◌++◌}
use Rattle.refusals.specs.Refusals.{none, met, naming}
use Rattle.refusals.specs.Answers.{accepted, refused}
use Rattle.outputs.specs.Given.{fitted, count_of}
use Rattle.records.specs.Encoding.{in_two, in_four, in_offset, encode, encode_all}
use Rattle.joins.specs.Records.{array_records, item_records, statement_records, loop_records}
use Rattle.joins.specs.Joining.{alike, joined_records, joining}
use Rattle.known.specs.Records.{array, ahead, store, read, one, end, times}
use Rattle.known.specs.Bytes.{table_of, example, itself, storer, reader, joined_bytes}
use Rattle.known.specs.Computed.{refusal, refusal_for, shifts_in, peels_in}

pub record Joins : Type 0 where
  -- it writes left's arrays, left's loops, right's loops and one end
  pub written : joining storer reader 44 ≡ accepted joined_bytes
  pub right-first : joining reader storer 44 ≡ accepted (times 2 (array 12) ++ store 1 ++ read 0 (ahead 1) ++ store 0 ++ one ++ end)
  -- that is read back as one table: loop 1 reads A0[i+1], which loop 0 stores
  pub read_back : refusal joined_bytes ≡ none
  pub shifts-back : shifts_in joined_bytes ≡ 0 ∷ 1 ∷ []
  pub peels-back : peels_in joined_bytes ≡ 0 ∷ 0 ∷ []
  -- the example with itself has 106 bytes
  pub example-twice : count_of (joining example example 106) ≡ 106
  -- a byte less is 13
  pub buffer : joining storer reader 43 ≡ refused (met 13 0)
  -- 16 loops in all, and 17: 4 with place 0
  pub loops-most : count_of (joining (table_of 1 9) (table_of 1 7) 4096) ≡ 278
  pub loops-past : joining (table_of 1 9) (table_of 1 8) 4096 ≡ refused (met 4 0)
  -- 14: arrays differ in length, or in number
  pub unlike-length : joining (table_of 1 1) (table_of 2 1) 4096 ≡ refused (met 14 0)
  pub unlike-number : joining (table_of 1 1) (array 1 ++ table_of 1 1) 4096 ≡ refused (met 14 0)
  -- left, then right, each through 9, then 14, 4, 13; a place counts in the table that meets the ground
  pub left-right : joining (itself 9) [] 0 ≡ refused (naming 9 0 0 1)
  pub right-unlike : joining example (itself 9) 0 ≡ refused (naming 9 0 0 1)
  pub right-place : joining example (table_of 1 1 ++ end) 0 ≡ refused (met 8 23)
  pub unlike-crowd : joining (table_of 1 9) (table_of 2 8) 4096 ≡ refused (met 14 0)
  pub crowd-buffer : joining (table_of 1 9) (table_of 1 8) 0 ≡ refused (met 4 0)

pub joins : Joins
unfolding refusal_for refusal joining alike joined_records array_records item_records statement_records loop_records in_two in_four in_offset encode encode_all fitted
joins = record {
  written = refl;
  right-first = refl;
  read_back = refl;
  shifts-back = refl;
  peels-back = refl;
  example-twice = refl;
  buffer = refl;
  loops-most = refl;
  loops-past = refl;
  unlike-length = refl;
  unlike-number = refl;
  left-right = refl;
  right-unlike = refl;
  right-place = refl;
  unlike-crowd = refl;
  crowd-buffer = refl;
}
