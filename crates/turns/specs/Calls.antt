-- What is asked of calls, whatever the actions and the memory are.
use Rattle.std.specs.Prelude.{ℕ, ◌≤◌, ◌<◌, ◌≡◌, List}
use Rattle.order.specs.Rows.{Rows}
use Rattle.refusals.specs.Refusals.{met}
use Rattle.turns.specs.Turn.{Work, refuses, After, stays, turn}
use Rattle.turns.specs.Reachable.{Reachable}

-- what settles a run of these rows
abbrev pub work : {A : Type 0} → Rows A → Work A
work r = record { processors = r.size; phases = r.phases; list = r.work }

-- what a call has to do: from a memory that fits and counts that are reached it is a turn; a number past the processors is refused, by 10
pub record Calls {A M : Type 0} (none : A) (r : Rows A) (run : A → M → M) (Fits : M → Type 0) (step : ℕ → List ℕ → M → After A M) : Type 0 where
  pub some-phase : 0 < r.phases
  pub few : r.size ≤ 64
  pub keeps : (x : A) (m : M) → Fits m → Fits (run x m)
  pub step-turn : (b : ℕ) (cs : List ℕ) (m : M) → Fits m → Reachable (work r) cs → b < r.size → step b cs m ≡ turn none (work r) run b cs m
  pub step_past : (b : ℕ) (cs : List ℕ) (m : M) → r.size ≤ b → step b cs m ≡ stays cs m (refuses (met 10 0))
