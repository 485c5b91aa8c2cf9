-- The table's own shifts and peels, as the call that gives them writes them, are a plan by hand that is accepted and is the same plan: so its blocks,
-- lists, steps and runs are the same. Laws alone.
use Rattle.std.specs.Prelude.{ℕ, zero, suc, ◌+◌, ◌*◌, ◌/◌, ◌%◌, ◌≤◌, ◌<◌, ◌≡◌, ◌≢◌, Bool, get_or, ltb}
use Rattle.std.proofs.Common.{arith, ap, ◌∙◌}
use Rattle.std.proofs.Math.Decide.{ℕ_discrete, dec_lt}
use Rattle.std.proofs.Math.Path.{refl, sym, subst}
use Rattle.std.proofs.Math.Bool.{false}
use mathlib.Core.List.{List, [], ◌∷◌, ◌++◌, append_assoc}
use Rattle.std.proofs.Math.ListN.{length, get_or-eq_default}
use Rattle.std.proofs.Math.Dec.{eqb}
use borrow.Author.Tests.{eq-eqb, ne_eqb}
use Rattle.refusals.specs.Refusals.{met}
use Rattle.refusals.specs.Answers.{accepted}
use Rattle.refusals.proofs.AnswerLaws.{if-accepted, after-accepted}
use Rattle.model.specs.Table.{Table, count}
use Rattle.serial.specs.Serial.{table}
use Rattle.grounds.specs.Accepted.{Valid}
use Rattle.tables.proofs.Nine.{valid}
use Rattle.records.specs.Bytes.{two, four}
use Rattle.numbers.specs.Numbers.{four as written, encoded}
use Rattle.numbers.specs.NumberLaws.{encoded-length}
use Rattle.outputs.specs.Given.{fitted}
use Rattle.chains.specs.Walk.{shifts, peels}
use Rattle.chains.proofs.WalkLaws.{numbers-length}
use Rattle.chains.specs.Dependence.{backward, forward}
use Rattle.chains.specs.TableGraph.{graph}
use Rattle.amounts.specs.declared.Amounts.{Amounts}
use Rattle.legality.specs.Written.{number_at, amounts_in}
use Rattle.legality.proofs.WrittenLaws.{row-filled}
use Rattle.legality.specs.ByHand.{judged, by_hand}
use Rattle.legality.proofs.ByHandLaws.{legal-judged, within-fine}
use Rattle.plans.specs.Plans.{Settings, shift_of, peel_of, own, bad_processors, bad_number, without_plan, amounts_for, fitting, planned, planned_for}
use Rattle.plans.proofs.Accepted.{own-chosen, shift_small, peel-small}
use Rattle.plans.proofs.FromBytes.{past_shift, past-peel}
use Rattle.entries.specs.Entries.{amounts_of, amounts}
use Rattle.entries.specs.Places.{amounts-count, amount-told}

-- A NUMBER that is written is read back
bytes-joined : (x a b c r₀ r₁ r₂ r₃ : ℕ) → x ≡ r₀ + 256 * a → a ≡ r₁ + 256 * b → b ≡ r₂ + 256 * c → c ≡ r₃
    → r₀ + 256 * r₁ + 65536 * (r₂ + 256 * r₃) ≡ x
bytes-joined x a b c r₀ r₁ r₂ r₃ e f g h = omega arith

written_read : (x : ℕ) (rest : List ℕ) → x < 4294967296 → four (written x ++ rest) 0 ≡ x
unfolding written four two
written_read x rest l =
    let second : x / 65536 ≡ x / 256 / 256 = omega arith in
    let third : x / 16777216 ≡ x / 65536 / 256 = omega arith in
    bytes-joined x (x / 256) (x / 65536) (x / 16777216) (x % 256) (x / 256 % 256) (x / 65536 % 256) (x / 16777216 % 256)
    (omega arith) (omega (arith, second)) (omega (arith, third)) (omega arith)

-- behind four bytes, as without them
module _ (a b c d : ℕ) (l : List ℕ) where
  behind : (i j : ℕ) → j ≡ i + 4 → get_or (a ∷ b ∷ c ∷ d ∷ l) j 0 ≡ get_or l i 0
  behind i j e = let q : j ≡ suc (suc (suc (suc i))) = omega arith in rw q

  four-behind : (m : ℕ) → four (a ∷ b ∷ c ∷ d ∷ l) (m + 4) ≡ four l m
  unfolding four two
  four-behind m =
      rw (behind m (m + 4) refl, behind (m + 1) (m + 4 + 1) (omega arith), behind (m + 2) (m + 4 + 2) (omega arith), behind (m + 2 + 1) (m + 4 + 2 + 1) (omega arith))

written_behind : (x : ℕ) (bs : List ℕ) (m : ℕ) → four (written x ++ bs) (m + 4) ≡ four bs m
unfolding written
written_behind x bs m = four-behind (x % 256) (x / 256 % 256) (x / 65536 % 256) (x / 16777216 % 256) bs m

number-back : (xs more : List ℕ) (n : ℕ) → n < length xs → ((i : ℕ) → get_or xs i 0 < 4294967296) → number_at (encoded xs ++ more) n ≡ get_or xs n 0
unfolding encoded
number-back [] more n l f = absurd (omega arith)
number-back (x ∷ xs) more zero l f = ap (λ (bs : List ℕ). four bs 0) (append_assoc (written x) (encoded xs) more) ∙ written_read x (encoded xs ++ more) (f 0)
number-back (x ∷ xs) more (suc n) l f =
    let e : 4 * suc n ≡ 4 * n + 4 = omega arith in
    ap (λ (bs : List ℕ). four bs (4 * suc n)) (append_assoc (written x) (encoded xs) more)
    ∙ ap (four (written x ++ (encoded xs ++ more))) e ∙ written_behind x (encoded xs ++ more) (4 * n) ∙ number-back xs more n (omega arith) (λ i. f (suc i))

pub same : (a b : Amounts) → a.shifts ≡ b.shifts → a.peels ≡ b.peels → a ≡ b
same a b e f =
    ap (λ (xs : List ℕ). record { shifts = xs; peels = a.peels }) e ∙ ap (λ (xs : List ℕ). record { shifts = b.shifts; peels = xs }) f

-- OUR OWN NUMBERS
module _ (s : List ℕ) (t : Table) (read : table s ≡ accepted t) where
  few : count t ≤ 16
  few = (valid s t read).few-loops

  v : Valid t
  v = valid s t read

  small : (i : ℕ) → get_or (amounts_of t) i 0 < 4294967296
  small i = go (dec_lt i (2 * count t)) (ℕ_discrete (i % 2) 0)
    where
      go : Dec (i < 2 * count t) → Dec (i % 2 ≡ 0) → get_or (amounts_of t) i 0 < 4294967296
      go (no l) d = let e = get_or-eq_default (amounts_of t) 0 {n = i} (omega (arith, amounts-count t)) in omega (arith, e)
      go (yes l) (yes e) =
          let q : 2 * (i / 2) ≡ i = omega arith in
          omega (arith, ap (λ (n : ℕ). get_or (amounts_of t) n 0) q, (amount-told t (i / 2) (omega arith)).0, shift_small t v (i / 2))
      go (yes l) (no e) =
          let q : 2 * (i / 2) + 1 ≡ i = omega arith in
          omega (arith, ap (λ (n : ℕ). get_or (amounts_of t) n 0) q, (amount-told t (i / 2) (omega arith)).1, peel-small t v (i / 2))

  -- written out, and read as a plan by hand, they are themselves, whatever stands behind them
  shift-read : (more : List ℕ) (k : ℕ) → k < count t → shift_of t k ≡ number_at (encoded (amounts_of t) ++ more) (2 * k + 0)
  shift-read more k l =
      let e : 2 * k + 0 ≡ 2 * k = omega arith in
      sym (ap (number_at (encoded (amounts_of t) ++ more)) e ∙ number-back (amounts_of t) more (2 * k) (omega (arith, amounts-count t)) small ∙ (amount-told t k l).0)

  peel-read : (more : List ℕ) (k : ℕ) → k < count t → peel_of t k ≡ number_at (encoded (amounts_of t) ++ more) (2 * k + 0 + 1)
  peel-read more k l =
      let e : 2 * k + 0 + 1 ≡ 2 * k + 1 = omega arith in
      sym (ap (number_at (encoded (amounts_of t) ++ more)) e ∙ number-back (amounts_of t) more (2 * k + 1) (omega (arith, amounts-count t)) small ∙ (amount-told t k l).1)

  own_read : (more : List ℕ) → own t ≡ amounts_in 2 0 (count t) (encoded (amounts_of t) ++ more)
  own_read more =
      same (own t) (amounts_in 2 0 (count t) (encoded (amounts_of t) ++ more))
      (row-filled (count t) _ (shifts (graph t)) (numbers-length backward (graph t)) (shift-read more) (past_shift s t read))
      (row-filled (count t) _ (peels (graph t)) (numbers-length forward (graph t)) (peel-read more) (past-peel s t read))

  own-judged : judged t (own t) ≡ accepted (own t)
  own-judged =
      legal-judged t few (own t) (within-fine (own t) (λ k. omega (arith, shift_small t v k)) (λ k. omega (arith, peel-small t v k))) (own-chosen t v).legal

  pub own-by-hand : (more : List ℕ) → by_hand t (length (encoded (amounts_of t))) (encoded (amounts_of t) ++ more) ≡ accepted (own t)
  unfolding by_hand
  own-by-hand more =
      let sized : length (encoded (amounts_of t)) ≡ 8 * count t = omega (arith, encoded-length (amounts_of t), amounts-count t) in
      let z = eq-eqb (length (encoded (amounts_of t))) (8 * count t) sized in
      rw z (subst (λ (a : Amounts). judged t a ≡ accepted (own t)) (own_read more) own-judged)

-- THE ROUND TRIP: what the call of shifts and peels wrote, given by hand with whatever stands behind it
abbrev pub by_hand_of : (g : ℕ) (bs more : List ℕ) → Settings → Settings
by_hand_of g bs more w = record { processors = w.processors; line = w.line; given = g; size = length bs; plan = bs ++ more }

module _ (s bs more : List ℕ) (room g : ℕ) (given : g ≢ 0) (w : Settings) (wrote : amounts s room ≡ accepted bs) where
  what : (t : Table) × (table s ≡ accepted t) × (bs ≡ encoded (amounts_of t))
  unfolding amounts fitted
  what =
      let (t, e, f) = after-accepted (table s) _ bs wrote in
      let (l, h) = if-accepted (met 13 0) (ltb room (length (encoded (amounts_of t)))) (accepted (encoded (amounts_of t))) bs f in
      let is : encoded (amounts_of t) ≡ bs = cc in
      (t, e, sym is)

  same-fitting : (wrong : Bool) → fitting wrong (by_hand_of g bs more w) (table s) ≡ fitting wrong (without_plan w) (table s)
  unfolding fitting amounts_for
  same-fitting wrong =
      let (t, e, is) = what in
      let z : eqb g 0 ≡ false = ne_eqb g 0 given in
      let h : by_hand t (length bs) (bs ++ more) ≡ accepted (own t) = subst (λ (x : List ℕ). by_hand t (length x) (x ++ more) ≡ accepted (own t)) (sym is) (own-by-hand s t e more) in
      rw (e, z, h)

  pub own-plan-same : planned s (by_hand_of g bs more w) ≡ planned s (without_plan w)
  unfolding planned
  own-plan-same = same-fitting (bad_processors w)

  pub own-plan-same-named : (b : ℕ) → planned_for s (by_hand_of g bs more w) b ≡ planned_for s (without_plan w) b
  unfolding planned_for
  own-plan-same-named b = same-fitting (bad_number w b)
