-- The blocks of an accepted plan are on whole lines. Laws alone.
use Rattle.std.specs.Prelude.{ℕ, suc, ◌+◌, ◌-◌, ◌*◌, ◌/◌, ◌≤◌, ◌<◌, ◌≡◌, refl, List}
use Rattle.std.proofs.Common.{arith, mul_comm, le-div_iff_mul-le, div-lt_iff_lt-mul, sym, ap, subst, ◌∙◌}
use Rattle.std.proofs.Math.Decide.{dec_lt}
use mathlib.Core.List.{Memᴰ as Mem}
use Rattle.model.specs.declared.Iteration.{Iteration}
use Rattle.model.specs.Table.{Table, count, first, last}
use Rattle.refusals.specs.Answers.{accepted}
use Rattle.blocks.specs.Sums.{least, largest}
use Rattle.blocks.specs.Span.{table_span}
use Rattle.blocks.specs.SpanLaws.{span-ends, span_begins}
use Rattle.blocks.specs.Blocks.{lines, start, before}
use Rattle.blocks.proofs.LineLaws.{before-first, before-up, before_last, before-whole, before-next, before-rises, before-one, some_block, one_block, short-not}
use Rattle.lists.specs.Fusion.{fused_list}
use Rattle.lists.proofs.FusionLaws.{fused-list}
use Rattle.chains.specs.Threshold.{threshold}
use Rattle.plans.specs.Plans.{Settings, Planned, plan_of, planned}
use Rattle.plans.specs.Accepted.{AcceptedPlan}
use Rattle.plans.proofs.Accepted.{not-outside, planned-accepts}
use Rattle.plans.specs.OnLines.{OnLines}

module _ (s : List ℕ) (w : Settings) (q : Planned) (planned-is : planned s w ≡ accepted q) where
  abbrev t : Table
  t = q.table

  abbrev law : AcceptedPlan s w q
  law = planned-accepts s w q planned-is

  wide : 0 < w.line
  wide = (not-outside 64 w.line law.not-seventeen).0

  pos : 0 < w.processors
  pos = (not-outside 64 w.processors law.not-ten).0

  enough : w.processors ≤ lines (table_span t).count w.line
  enough = (short-not (table_span t).count w.line w.processors (threshold law.amounts.shifts law.amounts.peels) law.not-eleven).0

  from : (table_span t).first ≡ least (count t) (first t)
  from = span_begins (count t) (first t) (last t)

  past : (table_span t).first + (table_span t).count ≡ suc (largest (count t) (last t))
  past = let v = law.fit.valid in span-ends (count t) (first t) (last t) v.some-loops (v.each 0 v.some-loops).rising

  -- a fused iteration of a block that is not the first stands at its beginning or later, of one that is not the last before its end
  fused-from : (b : ℕ) (x : Iteration) → b < w.processors → 0 < b → Mem x (fused_list t (plan_of t law.amounts w) b) → (plan_of t law.amounts w).edge b ≤ x.index
  fused-from b x l some m =
      let (i, f) = (fused-list t (plan_of t law.amounts w) b x l).0 m in
      omega (arith, f.low some)

  fused-past : (b : ℕ) (x : Iteration) → suc b < w.processors → Mem x (fused_list t (plan_of t law.amounts w) b) → x.index < (plan_of t law.amounts w).edge (suc b)
  fused-past b x l m =
      let (i, f) = (fused-list t (plan_of t law.amounts w) b x (omega arith)).0 m in
      omega (arith, f.high l)

  -- so of two blocks the lines before the later one's beginning divide them
  line-below : (b d : ℕ) (x y : Iteration) → b < d → d < w.processors → Mem x (fused_list t (plan_of t law.amounts w) b) → Mem y (fused_list t (plan_of t law.amounts w) d)
      → (x.index - (table_span t).first) / w.line < (y.index - (table_span t).first) / w.line
  line-below b d x y less l m n =
      let N = (table_span t).count in
      let n₀ = start (lines N w.line) w.processors d in
      let at = before-whole N w.line w.processors wide pos enough d l in
      let e : n₀ * w.line ≡ w.line * n₀ = mul_comm n₀ w.line in
      let up = before-up N w.line w.processors (suc b) d less in
      let low : (x.index - (table_span t).first) / w.line < n₀ =
      (div-lt_iff_lt-mul wide).1 (omega (arith, fused-past b x (omega arith) m, before-rises N w.line w.processors wide pos enough b (omega arith))) in
      let high : n₀ ≤ (y.index - (table_span t).first) / w.line =
      (le-div_iff_mul-le wide).1 (omega (arith, fused-from d y l (omega arith) n)) in
      omega arith

  own_line : (b d : ℕ) (x y : Iteration) → b < w.processors → d < w.processors → Mem x (fused_list t (plan_of t law.amounts w) b) → Mem y (fused_list t (plan_of t law.amounts w) d)
      → (x.index - (table_span t).first) / w.line ≡ (y.index - (table_span t).first) / w.line → b ≡ d
  own_line b d x y l i m n e = go (dec_lt b d) (dec_lt d b)
    where
      go : Dec (b < d) → Dec (d < b) → b ≡ d
      go (yes h) k = absurd (omega (arith, line-below b d x y h i m n))
      go (no h) (yes k) = absurd (omega (arith, line-below d b y x k l n m))
      go (no h) (no k) = omega arith

  on-lines : OnLines t w (plan_of t law.amounts w)
  on-lines =
      let N = (table_span t).count in
      let W = w.line in
      let P = w.processors in
      record {
        blocks = refl;
        first-begins = omega (arith, from, before-first N W P);
        last-ends = omega (arith, past, before_last N W P wide pos);
        consecutive = λ b. refl;
        some-index = λ b l. omega (arith, before-rises N W P wide pos enough b l);
        begins = λ b l. omega (arith, from, before-whole N W P wide pos enough b l);
        whole = λ b l. omega (arith, before-next N W P wide pos enough b l);
        widths = λ b l. omega (arith, before-up N W P b (suc b) (omega arith));
        in_block = λ i l m.
            let (b, k, a, e) = some_block N W P wide pos (i - (table_span t).first) (omega (arith, from, past)) in
            (b, k, (omega (arith, from), omega (arith, from)));
        in_one = λ i a b (l, m) (j, k).
            one_block N W P (i - (table_span t).first) a b (omega arith) (omega arith) (omega arith) (omega arith);
        own_line = λ b d x y l i m n e.
            own_line b d x y l i m n (subst (λ (f : ℕ). (x.index - f) / W ≡ (y.index - f) / W) (sym from) e);
        of_one = λ e b l. omega (arith, from, ap (λ (x : ℕ). before N x P b) e ∙ before-one N P pos b l);
      }

  pub planned-on-lines : OnLines t w q.plan
  planned-on-lines = rw law.plan-is on-lines
