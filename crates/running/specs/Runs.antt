-- What a run in a caller's order promises.
use Rattle.std.specs.Prelude.{ℕ, ◌≡◌, List, length, Float, Result}
use Rattle.refusals.specs.declared.Refusal.{Refusal}
use Rattle.refusals.specs.Answers.{result_of}
use Rattle.plans.specs.Plans.{Settings}
use Rattle.stepping.specs.Run.{run_answer, run_memory, run_idle}

-- from a table's bytes s, with the bytes of the order and the memory m as found; it answers r, how many calls were idle or the refusal, and the
-- memory holds `left`
pub record Runs (s : List ℕ) (w : Settings) (order : List ℕ) (m : List Float) (r : Result ℕ Refusal) (left : List Float) : Type 0 where
  pub tells : r ≡ result_of (λ q. run_idle s w order m) (run_answer s w (length m))
  pub memory-is : left ≡ run_memory s w order m
