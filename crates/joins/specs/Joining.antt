-- Two tables joined: left's arrays, left's loops, right's loops and one end; or a refusal.
use Rattle.std.specs.Prelude.{ℕ, ◌+◌, Bool, true, false, not, ◌&&◌, List, [], ◌∷◌, ◌++◌, eqb, ltb}
use Rattle.records.specs.declared.Record.{Record}
use Rattle.records.specs.declared.Record.TheVariants.{End}
use Rattle.records.specs.Encoding.{encode_all}
use Rattle.model.specs.Table.{Table, count}
use Rattle.refusals.specs.Refusals.{met}
use Rattle.refusals.specs.Answers.{refused, ◌if◌else◌, after}
use Rattle.serial.specs.Serial.{table}
use Rattle.outputs.specs.Given.{Given, fitted}
use Rattle.joins.specs.Records.{array_records, loop_records}

-- two lists of arrays' lengths are the same
unfoldable pub alike : List ℕ → List ℕ → Bool
alike [] [] = true
alike [] (m ∷ ms) = false
alike (n ∷ ns) [] = false
alike (n ∷ ns) (m ∷ ms) = eqb n m && alike ns ms

-- what is written: left's arrays, left's loops, right's loops and one end
unfoldable pub joined_records : Table → Table → List Record
joined_records t u = array_records t.lengths ++ (loop_records t.loops ++ (loop_records u.loops ++ (End ∷ [])))

-- left, then right, each through 9; then 14; 4 for too many loops in all; 13
unfoldable pub joining : List ℕ → List ℕ → ℕ → Given
joining left right room =
    after (table left) λ t.
    after (table right) λ u.
    refused (met 14 0) if not (alike t.lengths u.lengths) else
    refused (met 4 0) if ltb 16 (count t + count u) else
    fitted room (encode_all (joined_records t u))

-- the table that it is: left's arrays and the loops of both
abbrev pub together : Table → Table → Table
together t u = record { lengths = t.lengths; loops = t.loops ++ u.loops }
