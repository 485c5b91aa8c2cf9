-- Small tables joined, by computation.
use Rattle.std.specs.Prelude.{ℕ, zero, suc, ◌≡◌, refl, List, [], ◌∷◌, ◌++◌}
use Rattle.records.specs.Bytes.{two, four, offset, kind_of, body_length, record_of, record_at}
use Rattle.records.specs.Grounds.{early, edge, fields, ground, passed, tested}
use Rattle.records.specs.History.{operands, with_array, with_loop, with_item, with_statement, advanced, blank, summary, lengths}
use Rattle.records.specs.Encoding.{in_two, in_four, in_offset, encode, encode_all}
use Rattle.model.specs.Table.{constant, Table}
use Rattle.model.specs.Table.{Loop as LoopOf}
use Rattle.refusals.specs.Refusals.{met, naming}
use Rattle.refusals.specs.Answers.{accepted, refused}
use Rattle.reader.specs.Reading.{loops_of, follow, read_from, reading}
use Rattle.serial.specs.Serial.{collides, hit, pair_hit, loop_hit, serial_from, through, table}
use Rattle.outputs.specs.Given.{fitted}
use Rattle.joins.specs.Records.{array_records, item_records, statement_records, loop_records}
use Rattle.joins.specs.Joining.{alike, joined_records, joining, together}

-- an array of n elements; loops from 0 to 2 and from 1 to 3, A0[i] = 1 and A0[i−1] = 2; a loop from 0 to 1, A0[i] = A0[i] + A0[i+1];
-- a loop from 0 to 2 of two statements, A0[i] = 1 and A0[i] = 2
abbrev pub array : ℕ → List ℕ
array n = 1 ∷ n ∷ 0 ∷ 0 ∷ 0 ∷ []

abbrev pub ones : List ℕ
ones = 2 ∷ 0 ∷ 0 ∷ 0 ∷ 0 ∷ 2 ∷ 0 ∷ 0 ∷ 0 ∷ 0 ∷ 0 ∷ 0 ∷ 4 ∷ 1 ∷ 0 ∷ 0 ∷ 0 ∷ []

abbrev pub twos : List ℕ
twos = 2 ∷ 1 ∷ 0 ∷ 0 ∷ 0 ∷ 3 ∷ 0 ∷ 0 ∷ 0 ∷ 0 ∷ 255 ∷ 255 ∷ 4 ∷ 2 ∷ 0 ∷ 0 ∷ 0 ∷ []

abbrev sums : List ℕ
sums = 2 ∷ 0 ∷ 0 ∷ 0 ∷ 0 ∷ 1 ∷ 0 ∷ 0 ∷ 0 ∷ 0 ∷ 0 ∷ 0 ∷ 3 ∷ 0 ∷ 0 ∷ 0 ∷ 3 ∷ 0 ∷ 1 ∷ 0 ∷ 5 ∷ 1 ∷ []

abbrev pairs : List ℕ
pairs = ones ++ (7 ∷ 0 ∷ 0 ∷ 0 ∷ 4 ∷ 2 ∷ 0 ∷ 0 ∷ 0 ∷ [])

abbrev pub end : List ℕ
end = 6 ∷ []

-- a table of one array of n elements
abbrev pub table_with : ℕ → List ℕ → List ℕ
table_with n loops = array n ++ (loops ++ end)

abbrev times : ℕ → List ℕ → List ℕ
times zero l = []
times (suc n) l = l ++ times n l

-- what the first two loops are, read
abbrev one_loop : ℕ → ℕ → ℕ → ℕ → LoopOf
one_loop first last offset n = record {
  first = first;
  last = last;
  body = record { array = 0; offset = offset; items = constant n ∷ [] } ∷ [];
}

abbrev one_table : LoopOf → Table
one_table l = record { lengths = 3 ∷ []; loops = l ∷ [] }

pub record Example : Type 0 where
  -- left's array, left's loop, right's loop and one end: 40 bytes
  pub joined : joining (table_with 3 ones) (table_with 3 twos) 40 ≡ accepted (array 3 ++ (ones ++ (twos ++ end)))
  -- and it is read back
  pub read_back : table (array 3 ++ (ones ++ (twos ++ end))) ≡ accepted (together (one_table (one_loop 0 2 255 1)) (one_table (one_loop 1 3 254 2)))
  -- a further statement is copied with its loop, from left and from right: 58 bytes
  pub further : joining (table_with 3 pairs) (table_with 3 pairs) 58 ≡ accepted (array 3 ++ (pairs ++ (pairs ++ end)))
  -- 13: one byte too few are lent
  pub buffer : joining (table_with 3 ones) (table_with 3 twos) 39 ≡ refused (met 13 0)
  -- 14: arrays of 3 and of 4 elements; an array more; it comes before 4
  pub unlike : joining (table_with 3 ones) (table_with 4 twos) 40 ≡ refused (met 14 0)
  pub one_more : joining (array 3 ++ table_with 3 ones) (table_with 3 twos) 40 ≡ refused (met 14 0)
  pub unlike-first : joining (table_with 3 (times 9 ones)) (table_with 4 (times 8 twos)) 40 ≡ refused (met 14 0)
  -- 4: 17 loops in all; it comes before 13
  pub crowd : joining (table_with 3 (times 9 ones)) (table_with 3 (times 8 twos)) 40 ≡ refused (met 4 0)
  -- left, then right: no byte at all is 1, and 8 is no kind
  pub left-first : joining [] (8 ∷ []) 40 ≡ refused (met 1 0)
  -- right's 9: its loop 1, and of that loop the destination, 0, and the second read, 2
  pub serial : joining (table_with 3 ones) (table_with 3 (twos ++ sums)) 40 ≡ refused (naming 9 1 0 2)

pub example : Example
unfolding joining alike joined_records fitted array_records item_records statement_records loop_records in_two in_four in_offset encode encode_all table through serial_from
    loop_hit pair_hit hit collides reading read_from follow loops_of tested ground early fields passed edge two four offset kind_of body_length record_of
    record_at operands with_array with_loop with_item with_statement advanced blank summary lengths
example = record {
  joined = refl;
  read_back = refl;
  further = refl;
  buffer = refl;
  unlike = refl;
  one_more = refl;
  unlike-first = refl;
  crowd = refl;
  left-first = refl;
  serial = refl;
}
