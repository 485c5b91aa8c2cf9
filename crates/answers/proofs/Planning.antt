-- Every call that plans goes by the planner's answer, whatever the settings are. Where that refuses, the call is refused with the same and leaves all
-- as found, whatever else it is given; so 19, 20, 10, 17 and 11 are given by each of them wherever the planner gives them. Where it accepts, what the call
-- gives is of that plan. Of the listing printing's Given says it. Laws alone.
use Rattle.std.specs.Prelude.{ℕ, ◌≡◌, List, length, Float}
use borrow.Author.Tests.{eq-eqb}
use Rattle.refusals.specs.declared.Refusal.{Refusal}
use Rattle.refusals.specs.Refusals.{met}
use Rattle.refusals.specs.Answers.{accepted, refused}
use Rattle.numbers.specs.Numbers.{encoded}
use Rattle.outputs.specs.Given.{fitted}
use Rattle.model.specs.Table.{iteration}
use Rattle.model.specs.Bodies.{run}
use Rattle.plans.specs.Plans.{Settings, Planned, planned, planned_for}
use Rattle.plans.specs.Checking.{plan_threshold, threshold_in}
use Rattle.entries.specs.Entries.{blocks_of, listed_of, ranges_of, blocks_given, list_given, ranges_given}
use Rattle.iterations.specs.Memory.{remembered}
use Rattle.turns.specs.Turn.{refuses, stays, stepped}
use Rattle.turns.specs.Row.{none_done, reports, memory_after, idle, listed, row_of}
use Rattle.stepping.specs.Step.{work_of, elements, stepped_by, step}
use Rattle.stepping.specs.Run.{run_answer, run_memory, run_idle}
use Rattle.answers.specs.Statements.{OtherLength}
use Rattle.answers.proofs.Where.{twelve-where}

module _ (s : List ℕ) (w : Settings) where
  -- WHERE THE PLANNER REFUSES
  module _ (r : Refusal) (e : planned s w ≡ refused r) where
    -- asking for a plan tells no threshold
    pub check-planned-refused : threshold_in (planned s w) ≡ 0
    check-planned-refused = rw e

    pub blocks-planned-refused : (room : ℕ) → blocks_given s w room ≡ refused r
    unfolding blocks_given
    blocks-planned-refused room = rw e

    pub run-planned-refused : (n : ℕ) → run_answer s w n ≡ refused r
    unfolding remembered
    run-planned-refused n = rw e

  module _ (b : ℕ) (r : Refusal) (e : planned_for s w b ≡ refused r) where
    pub list-planned-refused : (phase room : ℕ) → list_given phase s w b room ≡ refused r
    unfolding list_given
    list-planned-refused phase room = rw e

    pub ranges-planned-refused : (phase room : ℕ) → ranges_given phase s w b room ≡ refused r
    unfolding ranges_given
    ranges-planned-refused phase room = rw e

    pub step-planned-refused : (counts : List ℕ) (m : List Float) → step s w b counts m ≡ stays counts m (refuses r)
    unfolding step stepped_by remembered
    step-planned-refused counts m = rw e

  -- WHERE IT ACCEPTS
  module _ (q : Planned) (e : planned s w ≡ accepted q) where
    -- asking for a plan tells its threshold (plans' FromBytes says what that is)
    pub check-planned : threshold_in (planned s w) ≡ plan_threshold q.plan
    check-planned = rw e

    pub blocks-planned : (room : ℕ) → blocks_given s w room ≡ fitted room (encoded (blocks_of q.plan))
    unfolding blocks_given
    blocks-planned room = rw e

    pub run-other-length : (n : ℕ) → OtherLength n (elements q) → run_answer s w n ≡ refused (met 12 0)
    run-other-length n h = twelve-where (planned s w) q e elements n h

    module _ (order : List ℕ) (m : List Float) (fits : length m ≡ elements q) where
      pub run-planned : run_answer s w (length m) ≡ accepted q
      unfolding remembered
      run-planned = rw (e, eq-eqb (length m) (elements q) fits)

      -- its calls are those of the row that takes the order, byte by byte, and then the lowest-numbered processor that can step
      pub run-memory-planned : run_memory s w order m
          ≡ memory_after (step s w) (row_of (step s w) q.plan.processors (listed (work_of q)) order m) none_done m
      unfolding run_memory
      run-memory-planned = rw run-planned

      pub run-idle-planned : run_idle s w order m
          ≡ idle (reports (step s w) (row_of (step s w) q.plan.processors (listed (work_of q)) order m) none_done m)
      unfolding run_idle
      run-idle-planned = rw run-planned

  module _ (b : ℕ) (q : Planned) (e : planned_for s w b ≡ accepted q) where
    pub list-planned : (phase room : ℕ) → list_given phase s w b room ≡ fitted room (encoded (listed_of phase b q))
    unfolding list_given
    list-planned phase room = rw e

    pub ranges-planned : (phase room : ℕ) → ranges_given phase s w b room ≡ fitted room (encoded (ranges_of phase b q))
    unfolding ranges_given
    ranges-planned phase room = rw e

    pub step-planned : (counts : List ℕ) (m : List Float) → length m ≡ elements q
        → step s w b counts m ≡ stepped (iteration 0 0) (work_of q) (run q.table) b counts m
    unfolding step stepped_by remembered
    step-planned counts m fits = rw (e, eq-eqb (length m) (elements q) fits)

    pub step-other-length : (counts : List ℕ) (m : List Float) → OtherLength (length m) (elements q)
        → step s w b counts m ≡ stays counts m (refuses (met 12 0))
    unfolding step stepped_by
    step-other-length counts m h = rw (twelve-where (planned_for s w b) q e elements (length m) h)
