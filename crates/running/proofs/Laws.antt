-- What a run of an accepted plan leaves, and what a refused one does.
use Prim.Native.Nat.{ℕ, ◌≤◌}
use native.Mathlib.Omega.{arith}
use mathlib.Core.Path.{◌≡◌, refl, ap, ◌∙◌}
use mathlib.Core.List.{List}
use lib.ListN.{length}
use lib.Ieee.{Float}
use Rattle.std.specs.Prelude.{Ok, Err}
use Rattle.refusals.specs.declared.Refusal.{Refusal}
use Rattle.refusals.specs.Refusals.{met}
use Rattle.refusals.specs.Answers.{accepted, refused}
use Rattle.records.specs.declared.storage.Store.{Store}
use Rattle.reader.specs.Store.{table_in}
use Rattle.blocks.specs.declared.Axis.{Axis}
use Rattle.iterations.specs.Memory.{element_total, remembered}
use Rattle.iterations.specs.MemoryLaws.{remembered-as-long, remembered-unlike}
use Rattle.iterations.specs.Loaded.{Loaded}
use Rattle.model.specs.declared.Iteration.{Iteration}
use Rattle.turns.specs.Turn.{Work}
use Rattle.turns.specs.Reachable.{Reachable}
use Rattle.barriers.specs.Code.{Ended, Rows}
use Rattle.plans.specs.Plans.{Settings, Planned, planned}
use Rattle.plans.specs.Code.{planned_in, Laid}
use Rattle.ranges.specs.Listed.{few-blocks}
use Rattle.layouts.specs.declared.Lists.{Lists}
use Rattle.layouts.specs.Layout.{work_in, Standing}
use Rattle.stepping.specs.Step.{work_of, elements, step}
use Rattle.stepping.specs.Run.{run_answer, run_memory, run_idle}
use Rattle.steps.specs.Laid.{lent-in}
use Rattle.steps.specs.Called.{called}
use Rattle.steps.proofs.Same.{step-called}
use Rattle.running.specs.Code.{Step, Calling, Rowed}
use Rattle.running.specs.Runs.{Runs}

-- WHAT THE CODE IS LENT, where the plan is laid out
module _ (a : Axis) (c : Store) (h : Laid a c) (es : List (List ℕ)) (xs : List Lists) (bs : List ℕ) (loaded : Loaded (table_in c) c bs) (ended : Ended (work_in a c) es)
    (rows : Rows es) (old : List Lists) (many : 64 ≤ length old) (stands : Standing a c old xs a.blocks) where
  calling-by : (step : Step) → ((b : ℕ) (cs : List ℕ) (m : List Float) → length m ≡ element_total (table_in c) → Reachable (work_in a c) cs
      → step b cs m ≡ called (work_in a c) (table_in c) b cs m) → Calling (work_in a c) step a.blocks es xs c bs
  calling-by step calls = record {
    lent = λ b. lent-in a c h es ended rows b xs b bs (λ l. (omega (arith, many, stands.long, few-blocks a c h), stands.each b l)) loaded;
    calls = calls;
  }

  -- for the bytes of an accepted table
  pub calling-in : (s : List ℕ) (w : Settings) → planned s w ≡ accepted (planned_in a c) → Calling (work_in a c) (step s w) a.blocks es xs c bs
  calling-in s w e = calling-by (step s w) (step-called s w (planned_in a c) e)

  -- and where no bytes are at hand
  pub calling-some : (w : Work Iteration) × ((step : Step) × Calling w step a.blocks es xs c bs)
  calling-some = (
    work_in a c,
    (called (work_in a c) (table_in c), calling-by (called (work_in a c) (table_in c)) (λ b cs m l r. refl)),
  )

-- THE RUN
module _ (s : List ℕ) (w : Settings) (order : List ℕ) (m : List Float) where
  run-refused : (r : Refusal) → run_answer s w (length m) ≡ refused r → Runs s w order m (Err r) m
  unfolding run_memory
  run-refused r e = record { tells = rw e refl; memory-is = rw e refl }

  -- 1 to 11
  pub runs-refused : (r : Refusal) → planned s w ≡ refused r → Runs s w order m (Err r) m
  unfolding remembered
  runs-refused r e = run-refused r (ap (remembered elements (length m)) e)

  module _ (q : Planned) (planned-is : planned s w ≡ accepted q) where
    -- 12
    pub runs-unlike : (length m ≡ element_total q.table → ⊥) → Runs s w order m (Err (met 12 0)) m
    runs-unlike n = run-refused (met 12 0) (ap (remembered elements (length m)) planned-is ∙ remembered-unlike elements (length m) q n)

    pub runs-made : length m ≡ element_total q.table → (left : List Float) (n : ℕ) → Rowed (work_of q) (step s w) q.plan.processors order m left n
        → Runs s w order m (Ok n) left
    unfolding run_memory run_idle
    runs-made long left n h = record { tells = rw f (ap Ok h.idle-is); memory-is = rw f h.memory-is }
      where
        f : run_answer s w (length m) ≡ accepted q
        f = ap (remembered elements (length m)) planned-is ∙ remembered-as-long elements (length m) q long
