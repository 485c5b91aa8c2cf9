-- What is known of an accepted plan: what is said of it. All that stands above the planner needs of a plan is here, however it was found.
use Rattle.std.specs.Prelude.{ℕ, suc, ◌≤◌, ◌<◌, ◌≡◌, Bool, List}
use Rattle.std.proofs.Math.Bool.{false}
use Rattle.model.specs.Table.{Table}
use Rattle.model.specs.Sound.{Sound}
use Rattle.refusals.specs.Answers.{accepted}
use Rattle.reader.specs.Reading.{Answer}
use Rattle.serial.specs.Serial.{table}
use Rattle.grounds.specs.Accepted.{Valid}
use Rattle.chains.specs.Graph.{Dependence}
use Rattle.chains.specs.TableGraph.{graph}
use Rattle.chains.specs.Legal.{LegalPlan}
use Rattle.lists.specs.Fusion.{Fusion}
use Rattle.lists.specs.Wide.{Wide}
use Rattle.rows.specs.Legal.{Legal}
use Rattle.amounts.specs.declared.Amounts.{Amounts}
use Rattle.legality.specs.Code.{Within}
use Rattle.plans.specs.Plans.{Settings, Planned, plan_of, short_for, bad_processors, bad_line, amounts_for}

-- the table meets none of the grounds 1 to 9; every dependence is kept; the blocks are no smaller than any loop's shift and peel together, and
-- none is empty; and the bounds that the code's sums need
pub record Fit (t : Table) (c : Fusion) : Type 0 where
  pub valid : Valid t
  pub sound : Sound t
  pub legal : Legal (Dependence (graph t)) t c
  pub wide : Wide t c
  pub rising : (b : ℕ) → b < c.processors → c.edge b < c.edge (suc b)
  pub few : c.processors ≤ 64
  pub small-peel : (k : ℕ) → c.peel k ≤ 10000
  pub small-edge : (b : ℕ) → b ≤ c.processors → c.edge b ≤ 65791

-- what is known of the shifts and peels of a plan, the table's own or those by hand: every dependence is met, and no number is above 10,000
pub record Chosen (t : Table) (a : Amounts) : Type 0 where
  pub legal : LegalPlan (graph t) a.shifts a.peels
  pub within : Within a.shifts a.peels

-- THE LAW of an accepted plan: its table was read through 9; none of 19, 20, 10, 17 and 11 holds; the plan is the one of the shifts and peels that are
-- meant; and it fits, which is all that is asked of a plan above this crate
pub record AcceptedPlan (s : List ℕ) (w : Settings) (q : Planned) : Type 0 where
  pub read : table s ≡ accepted q.table
  pub amounts : Amounts
  pub amounts-are : amounts_for w q.table ≡ accepted amounts
  pub not-ten : bad_processors w ≡ false
  pub not-seventeen : bad_line w ≡ false
  pub not-eleven : short_for q.table amounts w ≡ false
  pub plan-is : q.plan ≡ plan_of q.table amounts w
  pub chosen : Chosen q.table amounts
  pub fit : Fit q.table q.plan

-- what `fitting` accepts, with the shifts and peels a
pub record Accepts (wrong : Bool) (w : Settings) (s : Answer) (q : Planned) : Type 0 where
  pub read : s ≡ accepted q.table
  pub amounts : Amounts
  pub amounts-are : amounts_for w q.table ≡ accepted amounts
  pub right : wrong ≡ false
  pub whole : bad_line w ≡ false
  pub not_short : short_for q.table amounts w ≡ false
  pub plan-is : q.plan ≡ plan_of q.table amounts w
