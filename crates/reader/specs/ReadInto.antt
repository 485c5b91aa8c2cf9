-- What code tells of a reading, and what it leaves in the store.
use Rattle.std.specs.Prelude.{◌≡◌, Result}
use Rattle.std.specs.Result.{MatchResult}
use Rattle.refusals.specs.declared.Refusal.{Refusal}
use Rattle.records.specs.declared.storage.Store.{Store}
use Rattle.refusals.specs.Answers.{accepted, refused}
use Rattle.reader.specs.Reading.{Answer}
use Rattle.reader.specs.Store.{table_in}
use Rattle.reader.specs.Held.{Held}

-- r is told of the answer a: the refusal, or nothing, and then the store c holds the table
abbrev pub ReadInto : Answer → Result (Unit {0}) Refusal → Store → Type 0
ReadInto a r c = MatchResult r (λ _. (a ≡ accepted (table_in c)) × Held c) (λ e. a ≡ refused e)
