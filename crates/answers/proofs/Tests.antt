-- The tests of the definitions are the grounds' statements: given, a ground holds; where it holds, it is given.
use Rattle.std.specs.Prelude.{ℕ, ◌+◌, ◌≤◌, ◌<◌, ◌≡◌, refl, ◌⊎◌, ◌↔◌, Bool, true, false, cond, ◌&&◌, ◌||◌, List, eqb, ltb, leb, length}
use Rattle.std.proofs.Common.{arith, sym, ◌∙◌, inl, inr, ⊎_elim, ltb-true, leb-true, eqb-true, lt-ltb, le-ltb, le-leb, eq-eqb}
use Rattle.std.proofs.lemmas.Bool.{false≢true}
use Rattle.std.proofs.Math.Bool.{or-true}
use Rattle.std.proofs.Math.Decide.{dec_lt}
use Rattle.model.specs.Table.{Table}
use Rattle.blocks.specs.Sums.{column}
use Rattle.blocks.specs.SumLaws.{some-which, some-here}
use Rattle.blocks.specs.Span.{table_span}
use Rattle.blocks.proofs.LineLaws.{short-given, short-not}
use Rattle.turns.specs.Turn.{closed, wrong_count, wrong_state}
use Rattle.chains.specs.Threshold.{threshold}
use Rattle.amounts.specs.declared.Amounts.{Amounts}
use Rattle.plans.specs.Plans.{Settings, Planned, outside, bad_processors, bad_number, bad_line, short_for}
use Rattle.stepping.specs.Step.{work_of, fused, peeled}
use Rattle.stepping.specs.Worded.{wrong-is, barrier-is}
use Rattle.answers.specs.Statements.{BadProcessors, BadNumber, BadLine, Short, AboveLists, BeforeBarrier, BadCount, above, early, beyond, BadState}

-- a test and a statement say the same
abbrev pub Decides : Bool → Type 0 → Type 0
Decides x A = (x ≡ true) ↔ A

pub either : (x y : Bool) {A B : Type 0} → Decides x A → Decides y B → Decides (x || y) (A ⊎ B)
either x y {A} {B} f g = (to x y refl refl, ⊎_elim (λ a. left (f.1 a)) (λ b. right (g.1 b)))
  where
    to : (u v : Bool) → x ≡ u → y ≡ v → (u || v) ≡ true → A ⊎ B
    to true v e h q = inl (f.0 e)
    to false v e h q = inr (g.0 (h ∙ q))

    left : x ≡ true → (x || y) ≡ true
    left e = rw e

    right : y ≡ true → (x || y) ≡ true
    right e = rw e (or-true x)

both : (x y : Bool) {A B : Type 0} → Decides x A → Decides y B → Decides (x && y) (A × B)
both x y {A} {B} f g = (to x y refl refl, λ (a, b). rw (f.1 a, g.1 b))
  where
    to : (u v : Bool) → x ≡ u → y ≡ v → (u && v) ≡ true → A × B
    to true v e h q = (f.0 e, g.0 (h ∙ q))
    to false v e h q = absurd (false≢true q)

pub below : (m n : ℕ) → Decides (ltb m n) (m < n)
below m n = (ltb-true m n, lt-ltb m n)

at_most : (m n : ℕ) → Decides (leb m n) (m ≤ n)
at_most m n = (leb-true m n, le-leb m n)

outside-is : (most n : ℕ) → Decides (outside most n) ((n < 1) ⊎ (most < n))
outside-is most n = either (eqb n 0) (ltb most n) (λ e. omega (arith, eqb-true n 0 e), λ l. eq-eqb n 0 (omega arith)) (below most n)

-- 10
pub ten : (w : Settings) → Decides (bad_processors w) (BadProcessors w)
ten w = outside-is 64 w.processors

pub ten-named : (w : Settings) (b : ℕ) → Decides (bad_number w b) (BadNumber w b)
ten-named w b = either (bad_processors w) (leb w.processors b) (ten w) (at_most w.processors b)

-- 17
pub seventeen : (w : Settings) → Decides (bad_line w) (BadLine w)
seventeen w = outside-is 64 w.line

-- 11
pub eleven : (t : Table) (a : Amounts) (w : Settings) → Decides (short_for t a w) (Short t a w)
eleven t a w = (short-given T W P u, λ h. go h (short_for t a w) refl)
  where
    T : ℕ
    T = (table_span t).count

    W : ℕ
    W = w.line

    P : ℕ
    P = w.processors

    u : ℕ
    u = threshold a.shifts a.peels

    go : Short t a w → (x : Bool) → short_for t a w ≡ x → x ≡ true
    go h true e = refl
    go h false e =
        let (enough, wide) = short-not T W P u e in
        absurd (⊎_elim (λ l. omega arith) (λ (two, b, l, less). omega (arith, less, wide two b l)) h)

-- 15
module _ (q : Planned) (counts : List ℕ) where
  closed_is : Decides (closed (work_of q) counts 1) ((d : ℕ) × (d < q.plan.processors) × (column counts d < length (fused q d)))
  closed_is = (
    λ e.
        let (d, l, f) = some-which q.plan.processors (λ b. ltb (column counts b) (length (fused q b))) (sym (barrier-is q counts) ∙ e) in
        (d, l, ltb-true _ _ f),
    λ (d, l, f). barrier-is q counts ∙ some-here q.plan.processors d (λ b. ltb (column counts b) (length (fused q b))) l (lt-ltb _ _ f),
  )

  count-is : (b : ℕ) → Decides (wrong_count (work_of q) counts b) (BadCount q counts b)
  count-is b = (λ e. to (dec_lt b q.plan.processors) (sym (wrong-is q counts b) ∙ e), λ h. wrong-is q counts b ∙ from h)
    where
      done : ℕ
      done = column counts b

      inside : Bool
      inside = ltb (length (fused q b) + length (peeled q b)) done || (ltb (length (fused q b)) done && closed (work_of q) counts 1)

      inside_is : Decides inside (AboveLists q counts b ⊎ BeforeBarrier q counts b)
      inside_is =
          either (ltb (length (fused q b) + length (peeled q b)) done) (ltb (length (fused q b)) done && closed (work_of q) counts 1)
          (below (length (fused q b) + length (peeled q b)) done)
          (both (ltb (length (fused q b)) done) (closed (work_of q) counts 1) (below (length (fused q b)) done) closed_is)

      to : Dec (b < q.plan.processors) → cond (ltb b q.plan.processors) inside (ltb 0 done) ≡ true → BadCount q counts b
      to (yes l) e = ⊎_elim (above l) (early l) (inside_is.0 (rw (lt-ltb b q.plan.processors l) at e))
      to (no l) e = beyond (omega arith) (ltb-true 0 done (rw (le-ltb b q.plan.processors (omega arith)) at e))

      from : BadCount q counts b → cond (ltb b q.plan.processors) inside (ltb 0 done) ≡ true
      from (above l h) = rw (lt-ltb b q.plan.processors l) (inside_is.1 (inl h))
      from (early l h) = rw (lt-ltb b q.plan.processors l) (inside_is.1 (inr h))
      from (beyond l h) = rw (le-ltb b q.plan.processors l) (lt-ltb 0 done h)

  pub fifteen : Decides (wrong_state (work_of q) counts) (BadState q counts)
  unfolding wrong_state
  fifteen = (
    λ e. let (b, l, f) = some-which 64 (wrong_count (work_of q) counts) e in (b, l, (count-is b).0 f),
    λ (b, l, h). some-here 64 b (wrong_count (work_of q) counts) l ((count-is b).1 h),
  )
