-- The barrier, 15 and a turn as docs/TABLE.md says them, of a processor's fused list and the peeled list that it runs past the barrier.
use Rattle.std.specs.Prelude.{ℕ, ◌+◌, ◌-◌, ◌≡◌, refl, cond, ◌&&◌, ◌||◌, List, ltb, length, get_or}
use Rattle.model.specs.Table.{iteration}
use Rattle.blocks.specs.Sums.{column, some}
use Rattle.turns.specs.Turn.{performs, waits, ends, closed, wrong_count, next}
use Rattle.turns.specs.TwoPhases.{closed-second, two-wrong, two-next}
use Rattle.plans.specs.Plans.{Planned}
use Rattle.stepping.specs.Step.{work_of, fused, peeled}

module _ (q : Planned) (counts : List ℕ) where
  -- the barrier is closed while some fused list is not used up
  pub barrier-is : closed (work_of q) counts 1 ≡ some q.plan.processors (λ b. ltb (column counts b) (length (fused q b)))
  barrier-is = closed-second (work_of q) counts

  module _ (b : ℕ) where
    abbrev done : ℕ
    done = column counts b

    -- 15: a count above its lists, a peeled step before the barrier, or a count above 0 for a processor not below P
    pub wrong-is : wrong_count (work_of q) counts b
        ≡ cond (ltb b q.plan.processors)
        (ltb (length (fused q b) + length (peeled q b)) done || (ltb (length (fused q b)) done && closed (work_of q) counts 1)) (ltb 0 done)
    wrong-is = two-wrong (work_of q) counts b refl

    -- the next of the fused list; where that is used up, waiting till the barrier opens; then the next of the peeled list, or finished
    pub next-is : next (iteration 0 0) (work_of q) b counts
        ≡ (let past = done - length (fused q b) in
        cond (ltb done (length (fused q b))) (performs (get_or (fused q b) done (iteration 0 0)))
        (cond (closed (work_of q) counts 1) waits (cond (ltb past (length (peeled q b))) (performs (get_or (peeled q b) past (iteration 0 0))) ends)))
    next-is = two-next (work_of q) counts b refl (iteration 0 0)
