-- Laws of plans by hand: what an accepted one is, and of legal numbers that they are accepted.
use Rattle.std.specs.Prelude.{ℕ, ◌*◌, ◌/◌, ◌%◌, ◌≤◌, ◌<◌, ◌≡◌, refl, Bool, true, not, List, eqb, length, get_or}
use Rattle.std.proofs.Common.{arith}
use Rattle.std.proofs.Math.Decide.{dec_lt}
use Rattle.std.proofs.Math.Path.{sym, subst}
use Rattle.std.proofs.Math.Bool.{false}
use Rattle.std.proofs.Math.Dec.{ltb}
use Rattle.std.proofs.Math.ListN.{get_or-eq_default}
use borrow.Author.Tests.{eqb-true, eq-eqb, ltb-false, le-ltb}
use Rattle.refusals.specs.declared.Refusal.{Refusal}
use Rattle.refusals.specs.Refusals.{met, naming}
use Rattle.refusals.specs.Answers.{accepted, refused, Only}
use Rattle.refusals.proofs.AnswerLaws.{if-accepted, if-only, accepted-only}
use Rattle.model.specs.Table.{Table, count}
use Rattle.chains.specs.TableGraph.{graph}
use Rattle.chains.proofs.Tables.{all_refs-below}
use Rattle.chains.specs.Legal.{LegalPlan}
use Rattle.chains.specs.Unmet.{missed}
use Rattle.chains.proofs.UnmetLaws.{least-small, none-unmet, unmet-none, met-legal, legal-met}
use Rattle.blocks.specs.SumLaws.{neither, some-each, some-none}
use Rattle.amounts.specs.declared.Amounts.{Amounts}
use Rattle.legality.specs.Written.{amounts_in}
use Rattle.legality.proofs.WrittenLaws.{filled-length}
use Rattle.legality.specs.ByHand.{large_at, too_large, first_unmet, judged, by_hand}
use Rattle.legality.specs.Code.{Within}

not-false : (b : Bool) → not b ≡ false → b ≡ true
not-false true e = refl
not-false false e = sym e

-- numbers that are not too large, and the other way round
module _ (a : Amounts) where
  pub not-large : length a.shifts ≡ 16 → length a.peels ≡ 16 → too_large a ≡ false → Within a.shifts a.peels
  not-large l m e = record { shifts-long = l; peels-long = m; shifts-small = λ k. (small k).0; peels-small = λ k. (small k).1 }
    where
      small : (k : ℕ) → (get_or a.shifts k 0 ≤ 10000) × (get_or a.peels k 0 ≤ 10000)
      small k = go (dec_lt k 16)
        where
          go : Dec (k < 16) → (get_or a.shifts k 0 ≤ 10000) × (get_or a.peels k 0 ≤ 10000)
          go (yes i) =
              let (u, v) = neither (ltb 10000 (get_or a.shifts k 0)) (ltb 10000 (get_or a.peels k 0)) (some-each 16 k (large_at a) e i) in
              (ltb-false _ _ u, ltb-false _ _ v)
          go (no i) =
              (omega (arith, get_or-eq_default a.shifts 0 {n = k} (omega arith)), omega (arith, get_or-eq_default a.peels 0 {n = k} (omega arith)))

  pub within-fine : ((k : ℕ) → get_or a.shifts k 0 ≤ 10000) → ((k : ℕ) → get_or a.peels k 0 ≤ 10000) → too_large a ≡ false
  within-fine s p =
      some-none 16 (large_at a) (λ k l. let d = le-ltb 10000 (get_or a.shifts k 0) (s k) in let e = le-ltb 10000 (get_or a.peels k 0) (p k) in rw (d, e))

-- THE LAW of an accepted plan by hand: 8 bytes a loop, no number above 10,000, every dependence met
pub record HandFits (t : Table) (n : ℕ) (bs : List ℕ) (a : Amounts) : Type 0 where
  pub sized : n ≡ 8 * count t
  pub read : a ≡ amounts_in 2 0 (count t) bs
  pub within : Within a.shifts a.peels
  pub legal : LegalPlan (graph t) a.shifts a.peels

module _ (t : Table) (few : count t ≤ 16) where
  judged-accepts : (a b : Amounts) → judged t a ≡ accepted b → (a ≡ b) × (too_large a ≡ false) × LegalPlan (graph t) a.shifts a.peels
  unfolding judged
  judged-accepts a b e =
      let (l, f) = if-accepted (met 19 0) (too_large a) _ b e in
      let (m, g) = if-accepted (naming 20 (first_unmet t a / 16) (first_unmet t a % 16) 0) (ltb (first_unmet t a) 256) _ b f in
      let none : first_unmet t a ≡ 256 =
      omega (arith, ltb-false (first_unmet t a) 256 m, least-small (graph t) (missed (graph t) a.shifts a.peels)) in
      let same : a ≡ b = cc in
      (same, l, met-legal (graph t) a.shifts a.peels (none-unmet (graph t) (missed (graph t) a.shifts a.peels) (all_refs-below t few) none))

  -- legal numbers that are not too large are accepted
  pub legal-judged : (a : Amounts) → too_large a ≡ false → LegalPlan (graph t) a.shifts a.peels → judged t a ≡ accepted a
  unfolding judged
  legal-judged a l h =
      let none : first_unmet t a ≡ 256 =
      unmet-none (graph t) (missed (graph t) a.shifts a.peels) (all_refs-below t few) (legal-met (graph t) a.shifts a.peels h) in
      let b : ltb (first_unmet t a) 256 ≡ false = le-ltb (first_unmet t a) 256 (omega (arith, none)) in
      rw (l, b)

  pub hand-accepts : (n : ℕ) (bs : List ℕ) (a : Amounts) → by_hand t n bs ≡ accepted a → HandFits t n bs a
  unfolding by_hand
  hand-accepts n bs a e =
      let (m, f) = if-accepted (met 19 0) (not (eqb n (8 * count t))) _ a e in
      let (same, l, h) = judged-accepts (amounts_in 2 0 (count t) bs) a f in
      record {
        sized = eqb-true n (8 * count t) (not-false _ m);
        read = sym same;
        within = subst (λ (x : Amounts). Within x.shifts x.peels) same (not-large (amounts_in 2 0 (count t) bs) (filled-length _ (count t)) (filled-length _ (count t)) l);
        legal = subst (λ (x : Amounts). LegalPlan (graph t) x.shifts x.peels) same h;
      }

  -- and whatever fits is accepted: nothing else decides
  pub fits-hand : (n : ℕ) (bs : List ℕ) (a : Amounts) → HandFits t n bs a → by_hand t n bs ≡ accepted a
  unfolding by_hand
  fits-hand n bs a h =
      let z = eq-eqb n (8 * count t) h.sized in
      let fine : too_large a ≡ false = within-fine a h.within.shifts-small h.within.peels-small in
      rw z (subst (λ (x : Amounts). judged t x ≡ accepted a) h.read (legal-judged a fine h.legal))

-- no refusal of it has the ground 0
abbrev Some : Refusal → Type 0
Some q = q.ground ≡ 0 → ⊥

judged-some : (t : Table) (a : Amounts) → Only Some (judged t a)
unfolding judged
judged-some t a =
    if-only Some (met 19 0) (too_large a) _ (λ _ z. omega (arith, z))
    (λ _. if-only Some (naming 20 (first_unmet t a / 16) (first_unmet t a % 16) 0) (ltb (first_unmet t a) 256) (accepted a) (λ _ z. omega (arith, z)) (λ _. accepted-only Some a))

pub hand-some : (t : Table) (n : ℕ) (bs : List ℕ) (r : Refusal) → by_hand t n bs ≡ refused r → r.ground ≡ 0 → ⊥
unfolding by_hand
hand-some t n bs =
    if-only Some (met 19 0) (not (eqb n (8 * count t))) (judged t (amounts_in 2 0 (count t) bs)) (λ _ z. omega (arith, z))
    (λ _. judged-some t (amounts_in 2 0 (count t) bs))
