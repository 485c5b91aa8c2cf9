-- What the planner's code leaves of an accepted plan is laid out for other code.
use Rattle.std.specs.Prelude.{ℕ, List}
use Rattle.blocks.specs.declared.Axis.{Axis}
use Rattle.plans.specs.Plans.{Settings, planned, planned_for}
use Rattle.plans.specs.Code.{planned_in, Made, Laid}
use Rattle.plans.proofs.Accepted.{planned-accepts, named-accepts}
use Rattle.records.specs.declared.storage.Store.{Store}

pub made-laid : (s : List ℕ) (w : Settings) (x : Axis) (c : Store) → Made (planned s w) x c → Laid x c
made-laid s w x c m = record {
  held = m.held;
  fit = (planned-accepts s w (planned_in x c) m.is).fit;
  kept = m.kept;
}

-- a call that names a processor is the same call, for a processor below P
pub named-made : (s : List ℕ) (w : Settings) (b : ℕ) (x : Axis) (c : Store) → Made (planned_for s w b) x c → Made (planned s w) x c
named-made s w b x c m = record {
  is = (named-accepts s w b (planned_in x c) m.is).0;
  held = m.held;
  kept = m.kept;
}
