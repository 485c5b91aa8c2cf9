-- A table in a store, with what the code of an iteration needs to know of it.
use Rattle.std.specs.Prelude.{ℕ, List}
use Rattle.model.specs.Table.{Table}
use Rattle.records.specs.declared.storage.Store.{Store}
use Rattle.reader.specs.Stored.{Holds}
use Rattle.grounds.specs.Accepted.{Valid}
use Rattle.bodies.specs.Workable.{Based}

-- the store holds the table t, and bs is where its arrays begin
pub record Loaded (t : Table) (cs : Store) (bs : List ℕ) : Type 0 where
  pub holds : Holds cs t
  pub valid : Valid t
  pub based : Based bs t.lengths
