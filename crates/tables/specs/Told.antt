-- What a table's bytes are refused with: a ground of 1 to 8 at a place of the bytes, naming nothing; or 9.
use Rattle.std.specs.Prelude.{ℕ, ◌≡◌, List}
use Rattle.model.specs.Table.{Table}
use Rattle.refusals.specs.declared.Refusal.{Refusal}
use Rattle.refusals.specs.Refusals.{met, naming}
use Rattle.refusals.specs.Answers.{accepted}
use Rattle.reader.specs.Reading.{reading}
use Rattle.serial.specs.Meeting.{FirstMeeting}
use Rattle.grounds.specs.Statements.{Ground}

-- each ground of 1 to 9 where it is told: 1 to 8 at a place of the bytes, naming nothing; 9 at the lowest loop of the table that meets, naming
-- its least pair of references that collides
pub data Told : Refusal → List ℕ → Type 0 where
  ground : {n p : ℕ} {s : List ℕ} → Ground n s p → Told (met n p) s
  serial : {p m n : ℕ} {s : List ℕ} (t : Table) → reading s ≡ accepted t → FirstMeeting t p m n → Told (naming 9 p m n) s
