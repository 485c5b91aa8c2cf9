-- What joining is refused with, each case with its ground.
use Rattle.std.specs.Prelude.{ℕ, ◌+◌, ◌≤◌, ◌<◌, ◌≡◌, ◌≢◌, List, length}
use Rattle.records.specs.Encoding.{encode_all}
use Rattle.model.specs.Table.{Table, count}
use Rattle.refusals.specs.declared.Refusal.{Refusal}
use Rattle.refusals.specs.Refusals.{met}
use Rattle.refusals.specs.Answers.{accepted}
use Rattle.serial.specs.Serial.{table}
use Rattle.tables.specs.Told.{Told}
use Rattle.joins.specs.Joining.{joined_records}

-- both tables are accepted
abbrev pub BothAccepted : List ℕ → List ℕ → Table → Table → Type 0
BothAccepted left right t u = (table left ≡ accepted t) × (table right ≡ accepted u)

-- left's ground; right's, where left is accepted; each with what 9 names. Then 14, where the arrays differ; 4, where they don't and there
-- are too many loops in all; 13, where there are not and what is to be written is longer than the lent bytes. These three name nothing
pub data OfBoth (left right : List ℕ) (room : ℕ) : Refusal → Type 0 where
  in_left : {r : Refusal} → Told r left → OfBoth left right room r
  in_right : {r : Refusal} {t : Table} → table left ≡ accepted t → Told r right → OfBoth left right room r
  unlike : {t u : Table} → BothAccepted left right t u → t.lengths ≢ u.lengths → OfBoth left right room (met 14 0)
  crowd : {t u : Table} → BothAccepted left right t u → t.lengths ≡ u.lengths → 16 < count t + count u → OfBoth left right room (met 4 0)
  buffer : {t u : Table} → BothAccepted left right t u → t.lengths ≡ u.lengths → count t + count u ≤ 16
      → room < length (encode_all (joined_records t u)) → OfBoth left right room (met 13 0)
