-- DEMAND 2, from a table's bytes. Where they are accepted, each loop's shift and peel are the largest totals over all chains of dependences that
-- end at it, and the threshold is the largest sum of the two of one loop; where they are planned for, the plan has these shifts and peels, or
-- those given by hand, of which none is smaller; and each iteration stands in one list, once.
use Rattle.std.specs.Prelude.{ℕ, zero, suc, ◌+◌, ◌*◌, ◌≤◌, ◌<◌, refl, ◌⊎◌, List, get_or}
use Rattle.std.proofs.Common.{arith, ap, ◌∙◌, inl, inr, ⊎_elim}
use Rattle.std.proofs.Math.Decide.{ℕ_discrete, dec_lt}
use Rattle.std.proofs.Math.Path.{◌≡◌, sym}
use mathlib.Core.List.{Memᴰ as Mem}
use Rattle.model.specs.declared.Iteration.{Iteration}
use Rattle.model.specs.Table.{Table, count, Inside}
use borrow.Author.Tests.{eq-eqb, ne_eqb}
use Rattle.refusals.specs.Answers.{AnswerOf, accepted}
use Rattle.serial.specs.Serial.{table}
use Rattle.chains.specs.Dependence.{backward, forward}
use Rattle.chains.specs.TableGraph.{graph}
use Rattle.chains.specs.Chains.{Chain, Largest}
use Rattle.chains.specs.ChainLaws.{last-dependence}
use Rattle.chains.proofs.Tables.{shift-largest, peel-largest, all_refs-refs, plan-least as legal-least}
use Rattle.chains.specs.Legal.{LegalPlan}
use Rattle.chains.specs.Walk.{shifts, peels}
use Rattle.chains.specs.MaximumLaws.{maximum_below-of, maximum_below-upper}
use Rattle.chains.specs.Threshold.{threshold}
use Rattle.chains.proofs.ThresholdLaws.{threshold-attained, threshold-upper}
use Rattle.lists.specs.Fusion.{Fusion, work, fused_list, peeled_list}
use Rattle.lists.proofs.FusionLaws.{Once, once, owner, phase}
use Rattle.lists.specs.EachOnce.{EachOnce}
use Rattle.amounts.specs.declared.Amounts.{Amounts}
use Rattle.legality.specs.Written.{number_at}
use Rattle.legality.proofs.WrittenLaws.{pair_read, amount-past}
use Rattle.legality.proofs.ByHandLaws.{HandFits, hand-accepts}
use Rattle.plans.specs.Plans.{Settings, Planned, shift_of, peel_of, threshold_of, own, plan_of, amounts_for, planned}
use Rattle.plans.specs.Checking.{plan_threshold}
use Rattle.tables.proofs.Nine.{valid}
use Rattle.plans.specs.Accepted.{AcceptedPlan}
use Rattle.plans.proofs.Accepted.{planned-accepts}

-- SHIFTS, PEELS, THRESHOLD
module _ (s : List ℕ) (t : Table) (read : table s ≡ accepted t) where
  few : count t ≤ 16
  few = (valid s t read).few-loops

  pub shifts-largest : (k : ℕ) → Largest backward (graph t) k (shift_of t k)
  shifts-largest = shift-largest t few

  pub peels-largest : (k : ℕ) → Largest forward (graph t) k (peel_of t k)
  peels-largest = peel-largest t few

  -- no shifts and peels that meet every dependence are smaller
  pub none-smaller : (a p : List ℕ) → LegalPlan (graph t) a p → (k : ℕ) → (shift_of t k ≤ get_or a k 0) × (peel_of t k ≤ get_or p k 0)
  none-smaller = legal-least t few

  -- past the last loop no chain ends
  none-past : (k : ℕ) → count t ≤ k → Chain (graph t) k → ⊥
  none-past k l c =
      let (x, y, d, e) = last-dependence c in
      omega (arith, e, (all_refs-refs t y d.to).0)

  past-zero : (k n : ℕ) (amount : _) → count t ≤ k → Largest amount (graph t) k n → n ≡ 0
  past-zero k n amount l h = ⊎_elim (λ r. absurd (none-past k l r.0)) (λ r. r.1) h.attained

  pub past_shift : (k : ℕ) → count t ≤ k → shift_of t k ≡ 0
  past_shift k l = past-zero k (shift_of t k) backward l (shifts-largest k)

  pub past-peel : (k : ℕ) → count t ≤ k → peel_of t k ≡ 0
  past-peel k l = past-zero k (peel_of t k) forward l (peels-largest k)

  -- some loop's shift and peel together are the threshold, and no loop's are more
  pub threshold-some : (k : ℕ) × (k < count t) × (shift_of t k + peel_of t k ≡ threshold_of t)
  threshold-some =
      let (k, l, e) = threshold-attained (shifts (graph t)) (peels (graph t)) in
      go k e (dec_lt k (count t))
    where
      go : (k : ℕ) → shift_of t k + peel_of t k ≡ threshold_of t → Dec (k < count t)
          → (k : ℕ) × (k < count t) × (shift_of t k + peel_of t k ≡ threshold_of t)
      go k e (yes l) = (k, l, e)
      go k e (no l) =
          let a = past_shift k (omega arith) in
          let b = past-peel k (omega arith) in
          let most = threshold-upper (shifts (graph t)) (peels (graph t)) 0 (omega arith) in
          (0, omega (arith, (valid s t read).some-loops), omega (arith, a, b, e, most))

  pub threshold-most : (k : ℕ) → k < count t → shift_of t k + peel_of t k ≤ threshold_of t
  threshold-most k l = threshold-upper (shifts (graph t)) (peels (graph t)) k (omega (arith, few))

-- LISTS
module _ (s : List ℕ) (w : Settings) (q : Planned) (planned-is : planned s w ≡ accepted q) where
  abbrev law : AcceptedPlan s w q
  law = planned-accepts s w q planned-is

  -- without a plan by hand, the plan has the largest totals
  pub plan-own : w.given ≡ 0 → law.amounts ≡ own q.table
  unfolding amounts_for
  plan-own e = let z = eq-eqb w.given 0 e in let h : ◌≡◌ {A = AnswerOf Amounts} (accepted (own q.table)) (accepted law.amounts) = rw z at law.amounts-are in sym cc

  pub own-plan : w.given ≡ 0 → q.plan ≡ plan_of q.table (own q.table) w
  own-plan e = law.plan-is ∙ ap (λ (a : Amounts). plan_of q.table a w) (plan-own e)

  pub plan-shifts : w.given ≡ 0 → (k : ℕ) → Largest backward (graph q.table) k (q.plan.shift k)
  plan-shifts e k = rw (own-plan e) (shifts-largest s q.table law.read k)

  pub plan-peels : w.given ≡ 0 → (k : ℕ) → Largest forward (graph q.table) k (q.plan.peel k)
  plan-peels e k = rw (own-plan e) (peels-largest s q.table law.read k)

  -- with one, it has the numbers that its bytes say
  pub plan-by-hand : (w.given ≡ 0 → ⊥) → HandFits q.table w.size w.plan law.amounts
  unfolding amounts_for
  plan-by-hand n =
      let z = ne_eqb w.given 0 n in
      hand-accepts q.table (valid s q.table law.read).few-loops w.size w.plan law.amounts (rw z at law.amounts-are)

  pub hand-shifts : (w.given ≡ 0 → ⊥) → (k : ℕ) → k < count q.table → q.plan.shift k ≡ number_at w.plan (2 * k)
  hand-shifts n k l =
      ap (λ (c : Fusion). c.shift k) law.plan-is ∙ ap (λ (a : Amounts). get_or a.shifts k 0) (plan-by-hand n).read
      ∙ (pair_read (count q.table) w.plan k (valid s q.table law.read).few-loops l).0

  pub hand-peels : (w.given ≡ 0 → ⊥) → (k : ℕ) → k < count q.table → q.plan.peel k ≡ number_at w.plan (2 * k + 1)
  hand-peels n k l =
      ap (λ (c : Fusion). c.peel k) law.plan-is ∙ ap (λ (a : Amounts). get_or a.peels k 0) (plan-by-hand n).read
      ∙ (pair_read (count q.table) w.plan k (valid s q.table law.read).few-loops l).1

  -- NO ACCEPTED NUMBER IS BELOW OUR OWN
  pub plan-least : (k : ℕ) → (shift_of q.table k ≤ q.plan.shift k) × (peel_of q.table k ≤ q.plan.peel k)
  plan-least k = rw law.plan-is (none-smaller s q.table law.read law.amounts.shifts law.amounts.peels law.chosen.legal k)

  -- and none is above 10,000
  pub plan-most : (k : ℕ) → (q.plan.shift k ≤ 10000) × (q.plan.peel k ≤ 10000)
  plan-most k = rw law.plan-is (law.chosen.within.shifts-small k, law.chosen.within.peels-small k)

  -- ITS THRESHOLD is the largest sum of shift and peel of one loop of the table: some loop has it, and none more
  past-zeros : (k : ℕ) → count q.table ≤ k → q.plan.shift k + q.plan.peel k ≡ 0
  past-zeros k l = go (ℕ_discrete w.given 0)
    where
      go : Dec (w.given ≡ 0) → q.plan.shift k + q.plan.peel k ≡ 0
      go (yes e) = rw (own-plan e) (omega (arith, past_shift s q.table law.read k l, past-peel s q.table law.read k l))
      go (no n) =
          rw (law.plan-is, (plan-by-hand n).read) (omega (arith, (amount-past 2 0 (count q.table) w.plan k l).0, (amount-past 2 0 (count q.table) w.plan k l).1))

  pub plan-threshold-some : (k : ℕ) × (k < count q.table) × (q.plan.shift k + q.plan.peel k ≡ plan_threshold q.plan)
  plan-threshold-some =
      ⊎_elim (λ e. (0, some-loop, omega (arith, e, maximum_below-upper sum 16 0 (omega arith)))) (λ (k, l, e). go k e (dec_lt k (count q.table)))
      (maximum_below-of (λ n. (n ≡ 0) ⊎ ((k : ℕ) × (k < 16) × (sum k ≡ n))) sum 16 (inl refl) (λ k l. inr (k, l, refl)))
    where
      sum : ℕ → ℕ
      sum k = q.plan.shift k + q.plan.peel k

      some-loop : 0 < count q.table
      some-loop = (valid s q.table law.read).some-loops

      go : (k : ℕ) → sum k ≡ plan_threshold q.plan → Dec (k < count q.table) → (k : ℕ) × (k < count q.table) × (sum k ≡ plan_threshold q.plan)
      go k e (yes l) = (k, l, e)
      go k e (no l) = (0, some-loop, omega (arith, e, past-zeros k (omega arith), maximum_below-upper sum 16 0 (omega arith)))

  pub plan-threshold-most : (k : ℕ) → k < count q.table → q.plan.shift k + q.plan.peel k ≤ plan_threshold q.plan
  plan-threshold-most k l = maximum_below-upper (λ k. q.plan.shift k + q.plan.peel k) 16 k (omega (arith, (valid s q.table law.read).few-loops))

  -- without a plan by hand it is the table's own
  pub plan-threshold-own : w.given ≡ 0 → plan_threshold q.plan ≡ threshold_of q.table
  unfolding threshold
  plan-threshold-own e = rw (own-plan e)

  -- each iteration stands in one list, once
  pub each-once : EachOnce q.table q.plan
  each-once = record {
    stands = stands;
    one-fused = λ x b d l i m n. (home.alone 0 b x (omega arith) l m).1 ∙ sym (home.alone 0 d x (omega arith) i n).1;
    one-peeled = λ x b d l i m n. (home.alone 1 b x (omega arith) l m).1 ∙ sym (home.alone 1 d x (omega arith) i n).1;
    not-both = λ x b d l i m n. omega (arith, (home.alone 0 b x (omega arith) l m).2, (home.alone 1 d x (omega arith) i n).2);
    fused-once = λ b l. home.single 0 b (omega arith) l;
    peeled-once = λ b l. home.single 1 b (omega arith) l;
    fused-inside = λ b x l m. (home.alone 0 b x (omega arith) l m).0;
    peeled-inside = λ b x l m. (home.alone 1 b x (omega arith) l m).0;
  }
    where
      home : Once q.table q.plan law.fit.wide
      home = once q.table q.plan law.fit.wide

      at : (n b : ℕ) (x : Iteration) → Mem x (work q.table q.plan n b)
          → Mem x (fused_list q.table q.plan b) ⊎ Mem x (peeled_list q.table q.plan b)
      at zero b x m = inl m
      at (suc n) b x m = inr m

      stands : (x : Iteration) → Inside q.table x → (b : ℕ) × (b < q.plan.processors)
          × (Mem x (fused_list q.table q.plan b) ⊎ Mem x (peeled_list q.table q.plan b))
      stands x i =
          let (l, n, m) = home.listed x i in
          (owner q.table q.plan x, l, at (phase q.table q.plan x) (owner q.table q.plan x) x m)
