-- Each exported function on one table is refused only with a ground that holds. So the first number of an answer is 0 where the call is accepted and
-- nowhere else.
use Rattle.std.specs.Prelude.{ℕ, ◌*◌, ◌≤◌, Bool, List, [], ◌∷◌, eqb, length, Float}
use Rattle.std.proofs.Common.{arith, sym, ap, ◌∙◌}
use Rattle.std.proofs.Math.Path.{◌≡◌, refl, subst}
use Rattle.std.proofs.Math.Decide.{ℕ_discrete}
use Rattle.std.proofs.Math.Bool.{true, false, false≢true, not, or-true}
use Rattle.std.proofs.Math.Dec.{ltb}
use borrow.Author.Tests.{ltb-true, eq-eqb, ne_eqb}
use Rattle.refusals.specs.declared.Refusal.{Refusal}
use Rattle.refusals.specs.Refusals.{met}
use Rattle.refusals.specs.Answers.{AnswerOf, accepted, refused, ◌if◌else◌, after, refusal_of, Only}
use Rattle.refusals.proofs.AnswerLaws.{if-only, after-only, test-only, accepted-only}
use Rattle.model.specs.declared.Iteration.{Iteration}
use Rattle.model.specs.Table.{Table, count, iteration}
use Rattle.model.specs.Bodies.{run}
use Rattle.numbers.specs.Numbers.{encoded}
use Rattle.serial.specs.Serial.{table}
use Rattle.tables.proofs.Nine.{valid, told-some, refused-told}
use Rattle.outputs.specs.Given.{fitted}
use Rattle.amounts.specs.declared.Amounts.{Amounts}
use Rattle.legality.specs.ByHand.{too_large, first_unmet, judged, by_hand}
use Rattle.plans.specs.Plans.{Settings, Planned, own, plan_of, threshold_of, short_for, bad_processors, bad_number, bad_line, amounts_for, fits, fitting, planned, planned_for}
use Rattle.sweeps.specs.Sweeps as Sweeps
use Rattle.facts.specs.Facts.{facts_of, facts_given}
use Rattle.entries.specs.Entries.{amounts_of, blocks_of, listed_of, ranges_of, amounts, thresholds, sweeps_given, blocks_given, list_given, ranges_given}
use Rattle.printing.specs.Printing.{listing_of, listing_given}
use Rattle.iterations.specs.Memory.{element_total, remembered}
use Rattle.plain.specs.Plain.{plain_answer}
use Rattle.turns.specs.Turn.{Said, refuses, next, stepped, wrong_state}
use Rattle.turns.proofs.Reach.{Turn, does, halts, stops, turn_is}
use Rattle.turns.proofs.Meaning.{turn-said}
use Rattle.stepping.specs.Step.{work_of, elements, stepped_by, step}
use Rattle.stepping.specs.Run.{run_answer}
use Rattle.answers.specs.Statements.{Given, NotAPlan, BadProcessors, BadNumber, BadLine, OtherLength, NoRoom, BadState}
use Rattle.answers.proofs.Tests.{Decides, ten, ten-named, eleven, fifteen, seventeen}
use Rattle.answers.proofs.HandTests.{numbers, nineteen-is, twenty-given}
use Rattle.answers.specs.Refusing.{Then, before, here, ReadRefused, HandRefused, read, nineteen, twenty, CountRefused, LineRefused, FitRefused, PlanRefused, NamedRefused, MemoryRefused, OutputRefused, StepRefused, Nonzero}

-- 12 and 13 after any answer
module _ {T : Type 0} (a : AnswerOf T) (Before : Refusal → Type 0) (first : Only Before a) where
  remembered-only : (size : T → ℕ) (n : ℕ) → Only (MemoryRefused a Before size n) (remembered size n a)
  unfolding remembered
  remembered-only size n =
      test-only (MemoryRefused a Before size n) a 12 (λ t. not (eqb n (size t))) accepted (λ r e. before (first r e))
      (λ t e x. here t e (λ same. false≢true (rw (eq-eqb n (size t) same) at x)))
      (λ t e x. accepted-only _ t)

  fitted-only : (bytes : T → List ℕ) (room : ℕ) → Only (OutputRefused a Before bytes room) (after a (λ t. fitted room (bytes t)))
  unfolding fitted
  fitted-only bytes room =
      test-only (OutputRefused a Before bytes room) a 13 (λ t. ltb room (length (bytes t))) (λ t. accepted (bytes t)) (λ r e. before (first r e))
      (λ t e x. here t e (omega (arith, ltb-true room (length (bytes t)) x)))
      (λ t e x. accepted-only _ (bytes t))

-- THE EXPORTED FUNCTIONS
module _ (s : List ℕ) where
  pub check-refused : Only (ReadRefused s) (table s)
  check-refused = refused-told s

  pub facts-refused : (room : ℕ) → Only (OutputRefused (table s) (ReadRefused s) (λ t. encoded (facts_of t)) room) (facts_given s room)
  unfolding facts_given
  facts-refused = fitted-only (table s) (ReadRefused s) check-refused (λ t. encoded (facts_of t))

  pub amounts-refused : (room : ℕ) → Only (OutputRefused (table s) (ReadRefused s) (λ t. encoded (amounts_of t)) room) (amounts s room)
  unfolding amounts
  amounts-refused = fitted-only (table s) (ReadRefused s) check-refused (λ t. encoded (amounts_of t))

  pub threshold-refused : (room : ℕ) → Only (OutputRefused (table s) (ReadRefused s) (λ t. encoded (threshold_of t ∷ [])) room) (thresholds s room)
  unfolding thresholds
  threshold-refused = fitted-only (table s) (ReadRefused s) check-refused (λ t. encoded (threshold_of t ∷ []))

  pub sweeps-refused : (room : ℕ)
      → Only (OutputRefused (table s) (ReadRefused s) (λ t. encoded (Sweeps.before t ∷ Sweeps.after t ∷ [])) room) (sweeps_given s room)
  unfolding sweeps_given
  sweeps-refused = fitted-only (table s) (ReadRefused s) check-refused (λ t. encoded (Sweeps.before t ∷ Sweeps.after t ∷ []))

  pub plain-refused : (n : ℕ) → Only (MemoryRefused (table s) (ReadRefused s) element_total n) (plain_answer s n)
  unfolding plain_answer
  plain-refused = remembered-only (table s) (ReadRefused s) check-refused element_total

  module _ (w : Settings) where
    -- 19 and 20
    hand-only : (t : Table) → table s ≡ accepted t → Only (HandRefused s w) (amounts_for w t)
    unfolding amounts_for by_hand judged
    hand-only t e = go (ℕ_discrete w.given 0)
      where
        few : count t ≤ 16
        few = (valid s t e).few-loops

        fine : (x y : Bool) → not (eqb w.size (8 * count t)) ≡ x → too_large (numbers t few w) ≡ y → x ≡ false → y ≡ false → NotAPlan t w → ⊥
        fine x y p q u v h = false≢true (sym (rw (p ∙ u, q ∙ v)) ∙ (nineteen-is t few w).1 h)

        sized : Given w → not (eqb w.size (8 * count t)) ≡ true → HandRefused s w (met 19 0)
        sized g p = nineteen t e g ((nineteen-is t few w).0 (rw p))

        large : Given w → too_large (numbers t few w) ≡ true → HandRefused s w (met 19 0)
        large g p = nineteen t e g ((nineteen-is t few w).0 (rw p (or-true (not (eqb w.size (8 * count t))))))

        go : Dec (w.given ≡ 0) → Only (HandRefused s w) (accepted (own t) if eqb w.given 0 else by_hand t w.size w.plan)
        go (yes z) = rw (eq-eqb w.given 0 z) (accepted-only (HandRefused s w) (own t))
        go (no g) =
            rw (ne_eqb w.given 0 g)
            (if-only (HandRefused s w) (met 19 0) (not (eqb w.size (8 * count t))) (judged t (numbers t few w)) (sized g)
            (λ p. if-only (HandRefused s w) (met 19 0) (too_large (numbers t few w)) _ (large g)
            (λ q. if-only (HandRefused s w) _ (ltb (first_unmet t (numbers t few w)) 256) (accepted (numbers t few w))
            (λ l. twenty t _ _ e g (fine _ _ refl refl p q) (twenty-given t few w (ltb-true _ 256 l)))
            (λ l. accepted-only (HandRefused s w) (numbers t few w)))))

    fitting-only : (Bad : Type 0) (wrong : Bool) → Decides wrong Bad → Only (FitRefused s w Bad) (fitting wrong w (table s))
    unfolding fitting
    fitting-only Bad wrong d =
        after-only (FitRefused s w Bad) (table s) _ (λ r e. before (before (before (read (check-refused r e)))))
        (λ t e. test-only (FitRefused s w Bad) (amounts_for w t) 10 (λ a. wrong) (λ a. refused (met 17 0) if bad_line w else fits w t a)
        (λ r f. before (before (before (hand-only t e r f))))
        (λ a m x. before (before (here t e ((a, m), d.0 x))))
        (λ a m x. lined t e a m (λ bad. false≢true (sym x ∙ d.1 bad)) (bad_line w) refl))
      where
        short : (t : Table) → table s ≡ accepted t → (a : Amounts) → amounts_for w t ≡ accepted a → (Bad → ⊥) → (BadLine w → ⊥) → (x : Bool) → short_for t a w ≡ x
            → Only {T = Planned} (FitRefused s w Bad) (refused (met 11 0) if x else accepted (record { table = t; plan = plan_of t a w }))
        short t e a m fine whole true x r f = subst (FitRefused s w Bad) (ap refusal_of f) (here t e (a, m, fine, whole, (eleven t a w).0 x))
        short t e a m fine whole false x r f = accepted-only (FitRefused s w Bad) (record { table = t; plan = plan_of t a w }) r f

        lined : (t : Table) → table s ≡ accepted t → (a : Amounts) → amounts_for w t ≡ accepted a → (Bad → ⊥) → (x : Bool) → bad_line w ≡ x
            → Only {T = Planned} (FitRefused s w Bad) (refused (met 17 0) if x else fits w t a)
        lined t e a m fine true x r f = subst (FitRefused s w Bad) (ap refusal_of f) (before (here t e ((a, m), fine, (seventeen w).0 x)))
        lined t e a m fine false x r f = short t e a m fine (λ bad. false≢true (sym x ∙ (seventeen w).1 bad)) (short_for t a w) refl r f

    -- asking for a plan
    pub plan-refused : Only (PlanRefused s w) (planned s w)
    unfolding planned
    plan-refused = fitting-only (BadProcessors w) (bad_processors w) (ten w)

    named-refused : (b : ℕ) → Only (NamedRefused s w b) (planned_for s w b)
    unfolding planned_for
    named-refused b = fitting-only (BadNumber w b) (bad_number w b) (ten-named w b)

    pub blocks-refused : (room : ℕ) → Only (OutputRefused (planned s w) (PlanRefused s w) (λ q. encoded (blocks_of q.plan)) room) (blocks_given s w room)
    unfolding blocks_given
    blocks-refused = fitted-only (planned s w) (PlanRefused s w) plan-refused (λ q. encoded (blocks_of q.plan))

    pub listing-refused : (room : ℕ) → Only (OutputRefused (planned s w) (PlanRefused s w) listing_of room) (listing_given s w room)
    unfolding listing_given
    listing-refused = fitted-only (planned s w) (PlanRefused s w) plan-refused listing_of

    -- both lists
    pub list-refused : (phase b room : ℕ)
        → Only (OutputRefused (planned_for s w b) (NamedRefused s w b) (λ q. encoded (listed_of phase b q)) room) (list_given phase s w b room)
    unfolding list_given
    list-refused phase b = fitted-only (planned_for s w b) (NamedRefused s w b) (named-refused b) (λ q. encoded (listed_of phase b q))

    -- and the ranges of both
    pub ranges-refused : (phase b room : ℕ)
        → Only (OutputRefused (planned_for s w b) (NamedRefused s w b) (λ q. encoded (ranges_of phase b q)) room) (ranges_given phase s w b room)
    unfolding ranges_given
    ranges-refused phase b = fitted-only (planned_for s w b) (NamedRefused s w b) (named-refused b) (λ q. encoded (ranges_of phase b q))

    pub run-refused : (n : ℕ) → Only (MemoryRefused (planned s w) (PlanRefused s w) elements n) (run_answer s w n)
    run-refused = remembered-only (planned s w) (PlanRefused s w) plan-refused elements

    -- THE STEP
    module _ (b : ℕ) (counts : List ℕ) (m : List Float) where
      pub step-refused : (r : Refusal) → (step s w b counts m).said ≡ refuses r → StepRefused s w b counts m r
      unfolding step stepped_by stepped
      step-refused r = go (remembered elements (length m) (planned_for s w b)) refl
        where
          same : (q : Refusal) → ◌≡◌ {A = Said Iteration} (refuses q) (refuses r) → q ≡ r
          same q e = cc

          go : (a : AnswerOf Planned) → remembered elements (length m) (planned_for s w b) ≡ a → (stepped_by b counts m a).said ≡ refuses r → StepRefused s w b counts m r
          go (refused q) f e =
              before (remembered-only (planned_for s w b) (NamedRefused s w b) (named-refused b) elements (length m) r (f ∙ ap refused (same q e)))
          go (accepted q) f e = at (wrong_state (work_of q) counts) refl
            where
              -- a turn refuses nothing
              goes_on_lem : (x : Said Iteration) → Turn (iteration 0 0) (work_of q) b counts x → x ≡ refuses r → ⊥
              goes_on_lem x (does n come opened more) e = let z : ◌≡◌ {A = ℕ} 0 1 = cc in omega arith
              goes_on_lem x (halts n come some which) e = let z : ◌≡◌ {A = ℕ} 0 1 = cc in omega arith
              goes_on_lem x (stops used opened) e = let z : ◌≡◌ {A = ℕ} 0 1 = cc in omega arith

              at : (x : Bool) → wrong_state (work_of q) counts ≡ x → StepRefused s w b counts m r
              at true x = subst (StepRefused s w b counts m) (same (met 15 0) (rw x at e)) (here q f ((fifteen q counts).0 x))
              at false x =
                  absurd (goes_on_lem (next (iteration 0 0) (work_of q) b counts) (turn_is (iteration 0 0) (work_of q) (omega arith) b counts)
                  (sym (turn-said (iteration 0 0) (work_of q) (run q.table) b counts m) ∙ rw x at e))

-- NO REFUSAL HAS THE GROUND 0
module _ {T : Type 0} (a : AnswerOf T) (Before : Refusal → Type 0) (some : Nonzero Before) where
  pub then_some : (g : ℕ) (Holds : T → Type 0) → 1 ≤ g → Nonzero (Then a Before g Holds)
  then_some g Holds l r (before h) z = some r h z
  then_some g Holds l r (here t e h) z = omega (arith, z)

  pub memory-some : (size : T → ℕ) (n : ℕ) → Nonzero (MemoryRefused a Before size n)
  memory-some size n = then_some 12 (λ t. OtherLength n (size t)) (omega arith)

  pub output-some : (bytes : T → List ℕ) (room : ℕ) → Nonzero (OutputRefused a Before bytes room)
  output-some bytes room = then_some 13 (λ t. NoRoom room (bytes t)) (omega arith)

module _ (s : List ℕ) where
  pub read_some : Nonzero (ReadRefused s)
  read_some = told-some s

  module _ (w : Settings) where
    hand-nonzero : Nonzero (HandRefused s w)
    hand-nonzero r (read h) z = read_some r h z
    hand-nonzero r (nineteen t e g h) z = omega (arith, z)
    hand-nonzero r (twenty t j k e g n h) z = omega (arith, z)

    pub fit-some : (Bad : Type 0) → Nonzero (FitRefused s w Bad)
    fit-some Bad =
        then_some (table s) (LineRefused s w Bad) (then_some (table s) (CountRefused s w Bad) (then_some (table s) (HandRefused s w) hand-nonzero 10 _ (omega arith)) 17 _ (omega arith))
        11 _ (omega arith)

    pub step-some : (b : ℕ) (counts : List ℕ) (m : List Float) → Nonzero (StepRefused s w b counts m)
    step-some b counts m =
        then_some (remembered elements (length m) (planned_for s w b)) (MemoryRefused (planned_for s w b) (NamedRefused s w b) elements (length m))
        (memory-some (planned_for s w b) (NamedRefused s w b) (fit-some (BadNumber w b)) elements (length m))
        15 (λ q. BadState q counts) (omega arith)
