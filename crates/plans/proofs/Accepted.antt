-- Laws of an accepted plan: it fits, and so do its shifts and peels, the table's own or those by hand.
use Rattle.std.specs.Prelude.{ℕ, suc, ◌+◌, ◌≤◌, ◌<◌, ◌≡◌, refl, Bool, List, eqb, ltb, leb, get_or}
use Rattle.std.proofs.Common.{arith, sym, ap, ◌∙◌, ltb-false, leb-false, le-leb}
use Rattle.std.proofs.Math.Path.{subst}
use Rattle.std.proofs.Math.Bool.{true, false, or-false, or-true}
use Rattle.std.proofs.lemmas.Bool.{eqb-false, lt-leb}
use Rattle.model.specs.Table.{Table, count, first, last}
use Rattle.model.specs.References.{all_refs}
use Rattle.model.specs.Sound.{Sound}
use Rattle.refusals.specs.declared.Refusal.{Refusal}
use Rattle.refusals.specs.Refusals.{met}
use Rattle.refusals.specs.Answers.{accepted, refused, ◌if◌else◌}
use Rattle.refusals.proofs.AnswerLaws.{not-both, if-accepted, after-accepted}
use Rattle.reader.specs.Reading.{Answer}
use Rattle.serial.specs.Serial.{table}
use Rattle.grounds.specs.Accepted.{Valid}
use Rattle.grounds.proofs.AcceptedLaws.{valid-last}
use Rattle.tables.proofs.Nine.{valid, accepted-sound}
use Rattle.chains.specs.Graph.{Dependence}
use Rattle.chains.specs.TableGraph.{graph}
use Rattle.chains.specs.Dependence.{backward, forward}
use Rattle.chains.proofs.WalkLaws.{numbers-length}
use Rattle.chains.specs.Threshold.{threshold}
use Rattle.chains.proofs.Tables.{all_refs-refs, all_refs-below, refs-number, plan-legal}
use Rattle.chains.specs.Bounds.{InRange}
use Rattle.chains.proofs.Bounds.{shifts-bound, peels-bound, plan-threshold-bound}
use Rattle.chains.proofs.ThresholdLaws.{threshold-upper, threshold-bound}
use Rattle.blocks.specs.Span.{table_span}
use Rattle.blocks.specs.SpanLaws.{span-most}
use Rattle.blocks.specs.SumLaws.{neither}
use Rattle.blocks.proofs.LineLaws.{before-most, before-rises, short-not}
use Rattle.lists.specs.Fusion.{Fusion}
use Rattle.lists.specs.Wide.{Wide}
use Rattle.lists.proofs.FusionLaws.{fusion-wide}
use Rattle.rows.specs.Legal.{Legal}
use Rattle.amounts.specs.declared.Amounts.{Amounts}
use Rattle.legality.specs.ByHand.{by_hand}
use Rattle.legality.proofs.ByHandLaws.{hand-accepts, hand-some}
use Rattle.plans.specs.Plans.{Settings, Planned, shift_of, peel_of, threshold_of, own, plan_of, short_for, bad_processors, bad_number, bad_line, outside, amounts_for, fits, fitting, planned, planned_for}
use Rattle.plans.specs.Accepted.{Fit, Chosen, AcceptedPlan, Accepts}

-- not outside
pub not-outside : (most n : ℕ) → outside most n ≡ false → (0 < n) × (n ≤ most)
not-outside most n e =
    let (z, l) = neither (eqb n 0) (ltb most n) e in
    let some = eqb-false n 0 z in
    (omega (arith, some), ltb-false most n l)

-- no refusal of a plan by hand has the ground 0
pub amounts-some : (w : Settings) (t : Table) (r : Refusal) → amounts_for w t ≡ refused r → r.ground ≡ 0 → ⊥
unfolding amounts_for
amounts-some w t r e = go (eqb w.given 0) e
  where
    go : (b : Bool) → (accepted (own t) if b else by_hand t w.size w.plan) ≡ refused r → r.ground ≡ 0 → ⊥
    go true e = absurd (not-both (sym e))
    go false e = hand-some t w.size w.plan r e

-- OUR SHIFTS AND PEELS
module _ (t : Table) (v : Valid t) where
  near : InRange (all_refs t)
  near r m = let (l, i) = all_refs-refs t r m in (v.each r.number l).near r i

  pub shift_small : (k : ℕ) → shift_of t k ≤ 7650
  shift_small = shifts-bound (graph t) (all_refs-below t v.few-loops) near

  pub peel-small : (k : ℕ) → peel_of t k ≤ 7650
  peel-small = peels-bound (graph t) (all_refs-below t v.few-loops) near

  pub threshold-small : threshold_of t ≤ 15300
  threshold-small = plan-threshold-bound (graph t) (all_refs-below t v.few-loops) near

  -- they are such shifts and peels
  pub own-chosen : Chosen t (own t)
  own-chosen = record {
    legal = plan-legal t v.few-loops;
    within = record {
      shifts-long = numbers-length backward (graph t);
      peels-long = numbers-length forward (graph t);
      shifts-small = λ k. omega (arith, shift_small k);
      peels-small = λ k. omega (arith, peel-small k);
    };
  }

  -- and so are those by hand that are accepted
  pub amounts-chosen : (w : Settings) (a : Amounts) → amounts_for w t ≡ accepted a → Chosen t a
  unfolding amounts_for
  amounts-chosen w a e = go (eqb w.given 0) e
    where
      go : (b : Bool) → (accepted (own t) if b else by_hand t w.size w.plan) ≡ accepted a → Chosen t a
      go true e = let same : own t ≡ a = cc in subst (Chosen t) same own-chosen
      go false e = let h = hand-accepts t v.few-loops w.size w.plan a e in record { legal = h.legal; within = h.within }

  -- an accepted table's span ends early
  pub span_small : (table_span t).first + (table_span t).count ≤ 65791
  span_small = span-most (count t) (first t) (last t) 65790 v.some-loops (v.each 0 v.some-loops).rising (valid-last t v)

  module _ (w : Settings) (a : Amounts) (good : Chosen t a) where
    plan-keeps : Legal (Dependence (graph t)) t (plan_of t a w)
    plan-keeps =
        let (shift, peel) = good.legal in
        record {
          shifted = λ j k r q d.
              omega (arith, shift r q d.counts, ap (λ (n : ℕ). get_or a.shifts n 0) (refs-number t j r d.left), ap (λ (n : ℕ). get_or a.shifts n 0) (refs-number t k q d.right));
          peeled = λ j k r q d.
              omega (arith, peel r q d.counts, ap (λ (n : ℕ). get_or a.peels n 0) (refs-number t j r d.left), ap (λ (n : ℕ). get_or a.peels n 0) (refs-number t k q d.right));
        }

    abbrev u : ℕ
    u = threshold a.shifts a.peels

    -- their threshold
    pub chosen-threshold : threshold a.shifts a.peels ≤ 20000
    chosen-threshold =
        threshold-bound a.shifts a.peels 20000 (λ k l. omega (arith, good.within.shifts-small k, good.within.peels-small k))

    plan-wide : 0 < w.processors → short_for t a w ≡ false → Wide t (plan_of t a w)
    plan-wide pos e =
        fusion-wide t w.processors w.line (λ k. get_or a.shifts k 0) (λ k. get_or a.peels k 0) u
        (λ k l. threshold-upper a.shifts a.peels k (omega (arith, v.few-loops))) pos e

    plan-rises : 0 < w.processors → bad_line w ≡ false → short_for t a w ≡ false → (b : ℕ) → b < w.processors → (plan_of t a w).edge b < (plan_of t a w).edge (suc b)
    plan-rises pos m e b l =
        let T = (table_span t).count in
        let P = w.processors in
        omega (arith, before-rises T w.line P (not-outside 64 w.line m).0 pos (short-not T w.line P u e).0 b l)

    pub plan-fits : Sound t → bad_processors w ≡ false → bad_line w ≡ false → short_for t a w ≡ false → Fit t (plan_of t a w)
    plan-fits sound b f e =
        let (pos, few) = not-outside 64 w.processors b in
        record {
          valid = v;
          sound = sound;
          legal = plan-keeps;
          wide = plan-wide pos e;
          rising = plan-rises pos f e;
          few = few;
          small-peel = good.within.peels-small;
          small-edge = λ b l. omega (arith, before-most (table_span t).count w.line w.processors b, span_small);
        }

-- ACCEPTED
fitting-accepted : (wrong : Bool) (w : Settings) (s : Answer) (q : Planned) → fitting wrong w s ≡ accepted q → Accepts wrong w s q
unfolding fitting
fitting-accepted wrong w s q e =
    let (t, f, g) = after-accepted s _ q e in
    let (a, d, h) = after-accepted (amounts_for w t) _ q g in
    let (b, i) = if-accepted (met 10 0) wrong (refused (met 17 0) if bad_line w else fits w t a) q h in
    let (m, j) = if-accepted (met 17 0) (bad_line w) (fits w t a) q i in
    let (short, k) = if-accepted (met 11 0) (short_for t a w) (accepted (record { table = t; plan = plan_of t a w })) q j in
    let z : record { table = t; plan = plan_of t a w } ≡ q = cc in
    subst (Accepts wrong w s) z (record { read = f; amounts = a; amounts-are = d; right = b; whole = m; not_short = short; plan-is = refl })

pub planned-accepts : (s : List ℕ) (w : Settings) (q : Planned) → planned s w ≡ accepted q → AcceptedPlan s w q
unfolding planned
planned-accepts s w q e =
    let h = fitting-accepted (bad_processors w) w (table s) q e in
    let v = valid s q.table h.read in
    let good = amounts-chosen q.table v w h.amounts h.amounts-are in
    record {
      read = h.read;
      amounts = h.amounts;
      amounts-are = h.amounts-are;
      not-ten = h.right;
      not-seventeen = h.whole;
      not-eleven = h.not_short;
      plan-is = h.plan-is;
      chosen = good;
      fit = rw h.plan-is (plan-fits q.table v w h.amounts good (accepted-sound s q.table h.read) h.right h.whole h.not_short);
    }

-- it is for as many processors as were asked for
counted : (s : List ℕ) (w : Settings) (q : Planned) → planned s w ≡ accepted q → q.plan.processors ≡ w.processors
counted s w q e = ap (λ (c : Fusion). c.processors) (planned-accepts s w q e).plan-is

-- where a processor below P is named, the answer is the same, a refusal too
pub named-same : (s : List ℕ) (w : Settings) (b : ℕ) → b < w.processors → planned_for s w b ≡ planned s w
unfolding planned planned_for
named-same s w b l = rw (lt-leb w.processors b l, or-false (bad_processors w))

-- the same of an accepted plan, by its own count
pub named-below : (s : List ℕ) (w : Settings) (b : ℕ) (q : Planned) → planned s w ≡ accepted q → b < q.plan.processors → planned_for s w b ≡ accepted q
named-below s w b q e l = named-same s w b (omega (arith, counted s w q e)) ∙ e

-- beside a plan that is accepted, a number that is not below P is 10
pub named_past : (s : List ℕ) (w : Settings) (b : ℕ) (q : Planned) → planned s w ≡ accepted q → q.plan.processors ≤ b → planned_for s w b ≡ refused (met 10 0)
unfolding planned_for fitting
named_past s w b q e l =
    let past : w.processors ≤ b = omega (arith, counted s w q e) in
    let law = planned-accepts s w q e in
    rw (law.read, law.amounts-are, le-leb w.processors b past, or-true (bad_processors w))

pub named-accepts : (s : List ℕ) (w : Settings) (b : ℕ) (q : Planned) → planned_for s w b ≡ accepted q → (planned s w ≡ accepted q) × (b < q.plan.processors)
unfolding planned_for
named-accepts s w b q e =
    let h = fitting-accepted (bad_number w b) w (table s) q e in
    let (x, y) = neither (bad_processors w) (leb w.processors b) h.right in
    let l : b < w.processors = leb-false w.processors b y in
    let is = sym (named-same s w b l) ∙ e in
    (is, omega (arith, counted s w q is))
