-- DEMAND 3, of orders: every order among the processors in the fused lists and then every order in the peeled lists ends with the plain run's
-- memory. Each such order is what some complete row of step calls performs, and what a complete row performs is such an order.
use Rattle.std.specs.Prelude.{ℕ, zero, suc, ◌<◌, ◌≡◌, List, Float}
use Rattle.std.proofs.Common.{arith, sym, ◌∙◌}
use mathlib.Core.List.{Memᴰ as Mem}
use Rattle.order.specs.Sequences.{Before, run_all}
use Rattle.model.specs.declared.Iteration.{Iteration}
use Rattle.model.specs.Bodies.{run}
use Rattle.refusals.specs.Answers.{accepted}
use Rattle.lists.proofs.FusionLaws.{owner, phase}
use Rattle.turns.specs.Orders as turns
use Rattle.turns.proofs.EveryOrder.{row_for, order-performed, order-complete-row, order-memory, row-order}
use Rattle.plans.specs.Plans.{Settings, Planned, planned}
use Rattle.plain.specs.Plain.{plain_memory}
use Rattle.stepping.specs.Step.{work_of}
use Rattle.calls.specs.Rows.{Fits, Complete, row}
use Rattle.calls.specs.Calls.{calls}
use Rattle.calls.specs.Orders.{Order}
use Rattle.calls.proofs.AnyRow.{home, listed, unlisted, any-row}

module _ (s : List ℕ) (w : Settings) (q : Planned) (planned-is : planned s w ≡ accepted q) where
  -- the order is one of the plan's lists in two phases
  by-phases : {l : List Iteration} → Order q l → turns.Order (work_of q) l
  by-phases {l} o = record {
    each = λ n b x i j m. o.each x ((home s w q planned-is).alone n b x i j m).0;
    nothing-else = λ x m.
        let (i, j, h) = (home s w q planned-is).listed x (o.nothing-else x m) in
        (phase q.table q.plan x, owner q.table q.plan x, j, i, h);
    single = o.single;
    own-order = own-order;
    by-phase = by-phase;
  }
    where
      own-order : (n b : ℕ) (x y : Iteration) → n < 2 → b < q.plan.processors → Before x y ((work_of q).list n b) → Before x y l
      own-order zero b x y i j h = o.own-fused b x y (omega arith) h
      own-order (suc n) b x y i j h = o.own-peeled b x y (omega arith) h

      by-phase : (i j a b : ℕ) (x y : Iteration) → i < j → j < 2 → a < q.plan.processors → b < q.plan.processors
          → Mem x ((work_of q).list j b) → Mem y ((work_of q).list i a) → Before x y l → ⊥
      by-phase zero (suc j) a b x y e f g h u v k = o.fused-first b a x y (omega arith) (omega arith) u v k
      by-phase zero zero a b x y e f g h u v k = omega arith
      by-phase (suc i) j a b x y e f g h u v k = omega arith

  of-phases : {l : List Iteration} → turns.Order (work_of q) l → Order q l
  of-phases o = record {
    each = λ x i. let (j, n, h) = (home s w q planned-is).listed x i in o.each (phase q.table q.plan x) (owner q.table q.plan x) x n j h;
    nothing-else = λ x m. let (n, b, i, j, h) = o.nothing-else x m in ((home s w q planned-is).alone n b x i j h).0;
    single = o.single;
    own-fused = λ b x y l h. o.own-order 0 b x y (omega arith) l h;
    own-peeled = λ b x y l h. o.own-order 1 b x y (omega arith) l h;
    fused-first = λ a b x y i j u v h. o.by-phase 0 1 b a x y (omega arith) (omega arith) j i u v h;
  }

  module _ (m : List Float) (fits : Fits q m) where
    module _ (l : List Iteration) (o : Order q l) where
      -- the row that names the processor of each iteration in turn
      abbrev named : List ℕ
      named = row_for (calls s w q planned-is) m fits l (by-phases o)

      named-complete : Complete s w q named m
      named-complete = unlisted s w q planned-is named m (order-complete-row (calls s w q planned-is) m fits l (by-phases o))

      -- some row of step calls performs exactly that order, and is complete
      pub some-row-performs : (bs : List ℕ) × (row s w bs m ≡ l) × Complete s w q bs m
      some-row-performs = (named, order-performed (calls s w q planned-is) m fits l (by-phases o), named-complete)

      -- so running it leaves the plain run's memory
      pub every-order : run_all (run q.table) l m ≡ plain_memory s m
      every-order =
          sym (order-memory (calls s w q planned-is) m fits l (by-phases o)) ∙ any-row s w q planned-is named m fits named-complete

    -- what a complete row performs is such an order
    pub row-is-order : (bs : List ℕ) → Complete s w q bs m → Order q (row s w bs m)
    row-is-order bs all = of-phases (row-order (calls s w q planned-is) m fits bs (listed s w q planned-is bs m all))
