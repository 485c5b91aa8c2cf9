-- The bounds on bytes that grounds shows (2,353 of a table, the place 2,361 of a refusal, 2,364 that decide) are attained, by computation: a table
-- of 2,353 bytes is accepted, an input is refused at 2,361, and there is an input that 2,363 bytes do not decide.
use Rattle.std.specs.Prelude.{◌≡◌, refl, length, take}
use Rattle.refusals.specs.Refusals.{none, met}
use Rattle.refusals.specs.Answers.{refused, refusal_of}
use Rattle.records.specs.Bytes.{two, four, offset, kind_of, body_length, record_of, record_at}
use Rattle.records.specs.Grounds.{early, edge, fields, ground, passed, tested}
use Rattle.records.specs.History.{operands, with_array, with_loop, with_item, with_statement, advanced, blank, summary, lengths}
use Rattle.reader.specs.Reading.{loops_of, follow, read_from, reading}
use Rattle.longest.specs.Longest.{longest, furthest, ninth}

pub longest-accepted : (length longest ≡ 2353) × (refusal_of (reading longest) ≡ none)
unfolding two four offset kind_of body_length record_of record_at early edge fields ground passed tested
    operands with_array with_loop with_item with_statement advanced blank summary lengths loops_of follow read_from reading
longest-accepted = (refl, refl)

-- an input of 2,362 bytes is refused at the last of them; without it, at its absence
pub furthest-refused : (length furthest ≡ 2362) × (reading furthest ≡ refused (met 6 2361)) × (reading (take 2361 furthest) ≡ refused (met 1 2361))
unfolding two four offset kind_of body_length record_of record_at early edge fields ground passed tested
    operands with_array with_loop with_item with_statement advanced blank summary lengths loops_of follow read_from reading
furthest-refused = (refl, refl, refl)

-- an input of 2,364 bytes ends in a whole record, of a ninth number; without its last byte the record is torn
pub last-decides : (length ninth ≡ 2364) × (reading ninth ≡ refused (met 6 2359)) × (reading (take 2363 ninth) ≡ refused (met 1 2359))
unfolding two four offset kind_of body_length record_of record_at early edge fields ground passed tested
    operands with_array with_loop with_item with_statement advanced blank summary lengths loops_of follow read_from reading
last-decides = (refl, refl, refl)
