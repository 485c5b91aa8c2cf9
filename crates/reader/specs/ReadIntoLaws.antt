-- Laws of what reading into a store tells and leaves, by either arm of what is told.
use Rattle.std.specs.Prelude.{◌≡◌, Result, Ok, Err}
use Rattle.refusals.specs.declared.Refusal.{Refusal}
use Rattle.records.specs.declared.storage.Store.{Store}
use Rattle.refusals.specs.Answers.{accepted, refused, result_of}
use Rattle.reader.specs.Reading.{Answer}
use Rattle.reader.specs.Store.{table_in}
use Rattle.reader.specs.Held.{Held}
use Rattle.reader.specs.ReadInto.{ReadInto}

-- a refusal is told of what is refused, and of that alone; nothing is told of what is accepted, if the store holds its table
module _ (a : Answer) (c : Store) where
  pub into-refused : (r : Refusal) → a ≡ refused r → ReadInto a (Err r) c
  into-refused r e = e

  pub into-told : (r : Refusal) → ReadInto a (Err r) c → a ≡ refused r
  into-told r h = h

  pub into-accepted : a ≡ accepted (table_in c) → Held c → ReadInto a (Ok tt) c
  into-accepted e h = (e, h)

-- what is told is the answer's own
pub into-result : (a : Answer) (r : Result (Unit {0}) Refusal) (c : Store) → ReadInto a r c → r ≡ result_of (λ _. tt) a
into-result a (Ok u) c h = rw h.0
into-result a (Err e) c h = rw h
