-- Where a ground holds and none before it, it is given. 19 and 20 come before 10.
use Rattle.std.specs.Prelude.{ℕ, ◌*◌, ◌≤◌, ◌≡◌, Bool, ◌||◌, List, eqb, length, Float}
use Rattle.std.proofs.Math.Path.{refl}
use Rattle.std.proofs.Common.{◌∙◌}
use Rattle.std.proofs.Math.Bool.{true, false, not}
use Rattle.std.proofs.lemmas.Bool.{false≢true}
use Rattle.std.proofs.Math.Decide.{ℕ_discrete}
use Rattle.std.proofs.Math.Dec.{ltb}
use borrow.Author.Tests.{lt-ltb, eq-eqb, ne_eqb}
use Rattle.refusals.specs.declared.Refusal.{Refusal}
use Rattle.refusals.specs.Refusals.{met, naming}
use Rattle.refusals.specs.Answers.{AnswerOf, accepted, refused, ◌if◌else◌, after}
use Rattle.model.specs.Table.{Table, count}
use Rattle.serial.specs.Serial.{table}
use Rattle.outputs.specs.Given.{fitted}
use Rattle.tables.proofs.Nine.{valid}
use Rattle.blocks.specs.SumLaws.{neither}
use Rattle.amounts.specs.declared.Amounts.{Amounts}
use Rattle.legality.specs.Written.{amounts_in}
use Rattle.legality.specs.ByHand.{too_large, first_unmet, judged, by_hand}
use Rattle.plans.specs.Plans.{Settings, Planned, own, bad_processors, bad_number, amounts_for, fitting, planned, planned_for}
use Rattle.iterations.specs.Memory.{remembered}
use Rattle.turns.specs.Turn.{refuses, stays, stepped}
use Rattle.stepping.specs.Step.{elements, stepped_by, step}
use Rattle.answers.specs.Statements.{Given, NotAPlan, FirstNotMet, BadProcessors, BadNumber, BadLine, Short, OtherLength, NoRoom, BadState}
use Rattle.answers.proofs.HandTests.{numbers, nineteen-is, twenty-given, twenty-is}
use Rattle.answers.proofs.Tests.{below, ten, ten-named, fifteen}
use Rattle.answers.proofs.Fitting.{refuted, fitting-ten, fitting-seventeen, fitting-eleven}

-- 19 and 20, of a table that was read, where a plan by hand is given
module _ (s : List ℕ) (w : Settings) (t : Table) (read : table s ≡ accepted t) (given : Given w) where
  few : count t ≤ 16
  few = (valid s t read).few-loops

  hand-is : amounts_for w t ≡ by_hand t w.size w.plan
  unfolding amounts_for
  hand-is = rw (ne_eqb w.given 0 given)

  -- what it is refused with, every call that plans is
  hand-decides : (wrong : Bool) (r : Refusal) → by_hand t w.size w.plan ≡ refused r → fitting wrong w (table s) ≡ refused r
  unfolding fitting
  hand-decides wrong r e = rw (read, hand-is, e)

  not-a-plan : NotAPlan t w → by_hand t w.size w.plan ≡ refused (met 19 0)
  unfolding by_hand judged
  not-a-plan h = go (not (eqb w.size (8 * count t))) (too_large (numbers t few w)) refl refl ((nineteen-is t few w).1 h)
    where
      go : (x y : Bool) → not (eqb w.size (8 * count t)) ≡ x → too_large (numbers t few w) ≡ y → (x || y) ≡ true
          → by_hand t w.size w.plan ≡ refused (met 19 0)
      go true y e f z = rw e
      go false true e f z = rw (e, f)
      go false false e f z = absurd (false≢true z)

  first-not-met : (j k : ℕ) → (NotAPlan t w → ⊥) → FirstNotMet t w j k → by_hand t w.size w.plan ≡ refused (naming 20 j k 0)
  unfolding by_hand judged
  first-not-met j k n h =
      let (sized, fine) = neither (not (eqb w.size (8 * count t))) (too_large (numbers t few w)) (refuted _ (nineteen-is t few w) n) in
      let (l, is-j, is-k) = twenty-is t few w j k h in
      let b : ltb (first_unmet t (numbers t few w)) 256 ≡ true = lt-ltb _ _ l in
      rw (sized, fine, b, is-j, is-k)

  pub nineteen-where : NotAPlan t w → planned s w ≡ refused (met 19 0)
  unfolding planned
  nineteen-where h = hand-decides (bad_processors w) (met 19 0) (not-a-plan h)

  pub nineteen-named-where : (b : ℕ) → NotAPlan t w → planned_for s w b ≡ refused (met 19 0)
  unfolding planned_for
  nineteen-named-where b h = hand-decides (bad_number w b) (met 19 0) (not-a-plan h)

  pub twenty-where : (j k : ℕ) → (NotAPlan t w → ⊥) → FirstNotMet t w j k → planned s w ≡ refused (naming 20 j k 0)
  unfolding planned
  twenty-where j k n h = hand-decides (bad_processors w) (naming 20 j k 0) (first-not-met j k n h)

  pub twenty-named-where : (b j k : ℕ) → (NotAPlan t w → ⊥) → FirstNotMet t w j k → planned_for s w b ≡ refused (naming 20 j k 0)
  unfolding planned_for
  twenty-named-where b j k n h = hand-decides (bad_number w b) (naming 20 j k 0) (first-not-met j k n h)

-- 10, 17 and 11, of a table that was read, with the shifts and peels that are meant
module _ (s : List ℕ) (w : Settings) (t : Table) (read : table s ≡ accepted t) (a : Amounts) (meant : amounts_for w t ≡ accepted a) where
  pub ten-where : BadProcessors w → planned s w ≡ refused (met 10 0)
  unfolding planned
  ten-where h = fitting-ten s w t read a meant (bad_processors w) ((ten w).1 h)

  pub ten-named-where : (b : ℕ) → BadNumber w b → planned_for s w b ≡ refused (met 10 0)
  unfolding planned_for
  ten-named-where b h = fitting-ten s w t read a meant (bad_number w b) ((ten-named w b).1 h)

  pub seventeen-where : (BadProcessors w → ⊥) → BadLine w → planned s w ≡ refused (met 17 0)
  unfolding planned
  seventeen-where n h = fitting-seventeen s w t read a meant (bad_processors w) (refuted (bad_processors w) (ten w) n) h

  pub seventeen-named-where : (b : ℕ) → (BadNumber w b → ⊥) → BadLine w → planned_for s w b ≡ refused (met 17 0)
  unfolding planned_for
  seventeen-named-where b n h = fitting-seventeen s w t read a meant (bad_number w b) (refuted (bad_number w b) (ten-named w b) n) h

  pub eleven-where : (BadProcessors w → ⊥) → (BadLine w → ⊥) → Short t a w → planned s w ≡ refused (met 11 0)
  unfolding planned
  eleven-where n m h = fitting-eleven s w t read a meant (bad_processors w) (refuted (bad_processors w) (ten w) n) m h

  pub eleven-named-where : (b : ℕ) → (BadNumber w b → ⊥) → (BadLine w → ⊥) → Short t a w → planned_for s w b ≡ refused (met 11 0)
  unfolding planned_for
  eleven-named-where b n m h = fitting-eleven s w t read a meant (bad_number w b) (refuted (bad_number w b) (ten-named w b) n) m h

-- the shifts and peels that are meant: without a plan by hand the table's own; else its numbers, where neither 19 nor 20 holds
pub own-meant : (w : Settings) (t : Table) → (Given w → ⊥) → amounts_for w t ≡ accepted (own t)
unfolding amounts_for
own-meant w t n = go (ℕ_discrete w.given 0)
  where
    go : Dec (w.given ≡ 0) → (accepted (own t) if eqb w.given 0 else by_hand t w.size w.plan) ≡ accepted (own t)
    go (yes e) = rw (eq-eqb w.given 0 e)
    go (no e) = absurd (n e)

pub hand-meant : (s : List ℕ) (w : Settings) (t : Table) → table s ≡ accepted t → Given w → (NotAPlan t w → ⊥) → ((j k : ℕ) → FirstNotMet t w j k → ⊥)
    → amounts_for w t ≡ accepted (amounts_in 2 0 (count t) w.plan)
unfolding by_hand judged
hand-meant s w t read given n m =
    let (sized, fine) = neither (not (eqb w.size (8 * count t))) (too_large (numbers t (few s w t read given) w)) (refuted _ (nineteen-is t (few s w t read given) w) n) in
    let b : ltb (first_unmet t (numbers t (few s w t read given) w)) 256 ≡ false =
    refuted _ (below _ 256) (λ l. m _ _ (twenty-given t (few s w t read given) w l)) in
    hand-is s w t read given ∙ rw (sized, fine, b)

-- 12 and 13, after any answer that accepts
module _ {T : Type 0} (a : AnswerOf T) (t : T) (e : a ≡ accepted t) where
  pub twelve-where : (size : T → ℕ) (n : ℕ) → OtherLength n (size t) → remembered size n a ≡ refused (met 12 0)
  unfolding remembered
  twelve-where size n h = rw (e, ne_eqb n (size t) h)

  pub thirteen-where : (bytes : T → List ℕ) (room : ℕ) → NoRoom room (bytes t) → after a (λ t. fitted room (bytes t)) ≡ refused (met 13 0)
  unfolding fitted
  thirteen-where bytes room h = rw (e, lt-ltb room (length (bytes t)) h)

-- 15
pub fifteen-where : (s : List ℕ) (w : Settings) (b : ℕ) (counts : List ℕ) (m : List Float) (q : Planned)
    → remembered elements (length m) (planned_for s w b) ≡ accepted q → BadState q counts → step s w b counts m ≡ stays counts m (refuses (met 15 0))
unfolding step stepped_by stepped
fifteen-where s w b counts m q e h = rw (e, (fifteen q counts).1 h)
