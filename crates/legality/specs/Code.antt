-- What the code of a plan by hand finds, of two references, of two loops and of all.
use Rattle.std.specs.Prelude.{ℕ, ◌+◌, ◌/◌, ◌%◌, ◌≤◌, ◌<◌, ◌≡◌, ◌≢◌, Bool, true, ◌&&◌, ◌||◌, cond, Option, Some, None, List, ltb, length, get_or}
use Rattle.model.specs.declared.Reference.{Reference}
use Rattle.model.specs.Table.{Table, count}
use Rattle.model.specs.References.{refs}
use Rattle.records.specs.declared.storage.Store.{Store}
use Rattle.reader.specs.Store.{table_in}
use Rattle.reader.specs.Rows.{row_refs, LastDestination}
use Rattle.chains.specs.Dependence.{backward, forward}
use Rattle.chains.specs.TableGraph.{graph}
use Rattle.chains.specs.Unmet.{some_of, missed, lacks, unmet, least_unmet}
use Rattle.amounts.specs.declared.Amounts.{Amounts}
use Rattle.amounts.specs.Walked.{ReferenceFits}

-- shifts and peels that are no larger than a plan by hand's may be
pub record Within (shifts peels : List ℕ) : Type 0 where
  pub shifts-long : length shifts ≡ 16
  pub peels-long : length peels ≡ 16
  pub shifts-small : (k : ℕ) → get_or shifts k 0 ≤ 10000
  pub peels-small : (k : ℕ) → get_or peels k 0 ≤ 10000

-- a reference of one of sixteen loops, with an offset that a table can have
pub record Near (x : Reference) : Type 0 where
  pub number : x.number < 16
  pub offset : x.offset ≤ 510

-- `missed` of a table's graph
abbrev pub missing : Amounts → Reference → Reference → Bool
missing amounts x y =
    ltb (get_or amounts.shifts y.number 0) (get_or amounts.shifts x.number 0 + backward x y)
    || ltb (get_or amounts.peels y.number 0) (get_or amounts.peels x.number 0 + forward x y)

-- of the table t, with these shifts and peels
module _ (t : Table) (amounts : Amounts) where
  abbrev pub lacking : Reference → Reference → Bool
  lacking = lacks (graph t) (missed (graph t) amounts.shifts amounts.peels)

  -- the dependence between x and y, whichever is of the earlier loop, is not met
  abbrev pub between : Reference → Reference → Bool
  between x y = lacking x y || lacking y x

  -- so with x and some reference of loop k
  abbrev pub with_loop : Reference → ℕ → Bool
  with_loop x k = some_of (between x) (refs t k)

  -- so with x, if it is a destination
  abbrev pub stored_with : ℕ → Reference → Bool
  stored_with k x = x.stores && with_loop x k

  -- so with some destination of loop j and some reference of loop k
  abbrev pub destinations : ℕ → ℕ → Bool
  destinations j k = some_of (stored_with k) (refs t j)

  abbrev pub unmet_in : ℕ → ℕ → Bool
  unmet_in = unmet (graph t) (missed (graph t) amounts.shifts amounts.peels)

  abbrev pub least_unmet_in : ℕ
  least_unmet_in = least_unmet (graph t) (missed (graph t) amounts.shifts amounts.peels)

-- a loop by its number, and a pair of loops by 16 times the earlier and the later: none past the last
abbrev pub loop_of : ℕ → Option ℕ
loop_of n = cond (ltb n 16) (Some n) None

abbrev pub pair_of : ℕ → Option (ℕ × ℕ)
pair_of n = cond (ltb n 256) (Some (n / 16, n % 16)) None

-- a destination of one of the table's loops, and another loop
pub record Storing (t : Table) (x : Reference) (k : ℕ) : Type 0 where
  pub fits : ReferenceFits t x
  pub stores : x.stores ≡ true
  pub other : x.number ≢ k
  pub there : k < count t

-- for each loop of the table in a store the row of its last destination
pub record Lasts (c : Store) (lasts : List ℕ) : Type 0 where
  pub long : length lasts ≡ 16
  pub each : (k : ℕ) → k < count (table_in c) → LastDestination c k (get_or lasts k 0)

module _ (c : Store) (amounts : Amounts) where
  -- x and the reference in row r of loop k, if there is one in it
  abbrev pub with_row : Reference → ℕ → ℕ → Bool
  with_row x k r = some_of (between (table_in c) amounts x) (row_refs c k r)

  -- the destination in row r of loop j, if there is one in it, and some reference of loop k
  abbrev pub destination_row : ℕ → ℕ → ℕ → Bool
  destination_row j r k = some_of (stored_with (table_in c) amounts k) (row_refs c j r)
