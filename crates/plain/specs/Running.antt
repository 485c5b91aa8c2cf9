-- A store on whose table the code runs, and a memory of the table's length.
use Rattle.std.specs.Prelude.{ℕ, ◌≡◌, List, length, Float}
use Rattle.records.specs.declared.storage.Store.{Store}
use Rattle.reader.specs.Store.{table_in}
use Rattle.iterations.specs.Memory.{element_total}
use Rattle.iterations.specs.Loaded.{Loaded}

pub record Running (cs : Store) (bs : List ℕ) (m : List Float) : Type 0 where
  pub loaded : Loaded (table_in cs) cs bs
  pub long : length m ≡ element_total (table_in cs)
