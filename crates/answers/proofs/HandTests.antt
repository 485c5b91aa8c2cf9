-- The tests of a plan by hand are the statements of 19 and 20: given, a ground holds; where it holds, it is given.
use Rattle.std.specs.Prelude.{ℕ, ◌+◌, ◌*◌, ◌/◌, ◌%◌, ◌≤◌, ◌<◌, ◌≡◌, refl, ◌⊎◌, ◌≢◌, Bool, true, not, ◌||◌, eqb, get_or}
use Rattle.std.proofs.Common.{arith, subst, inl, inr, ⊎_elim, eq-eqb, ne_eqb}
use Rattle.std.proofs.Math.Decide.{dec_lt}
use Rattle.std.proofs.lemmas.Bool.{false≢true}
use Rattle.model.specs.declared.Reference.{Reference}
use Rattle.model.specs.Table.{Table, count}
use Rattle.chains.specs.Dependence.{backward, forward}
use Rattle.chains.specs.Graph.{Dependence}
use Rattle.chains.specs.TableGraph.{graph}
use Rattle.chains.proofs.Tables.{all_refs-refs, all_refs-below}
use Rattle.chains.specs.Unmet.{missed, Unmet}
use Rattle.chains.proofs.UnmetLaws.{missed-is, first-unmet, unmet-first}
use Rattle.blocks.specs.SumLaws.{some-which, some-here}
use Rattle.amounts.specs.declared.Amounts.{Amounts}
use Rattle.legality.specs.Written.{amounts_in}
use Rattle.legality.proofs.WrittenLaws.{pair_read, amount-past}
use Rattle.legality.specs.ByHand.{large_at, too_large, first_unmet}
use Rattle.plans.specs.Plans.{Settings}
use Rattle.answers.specs.Statements.{hand_shift, hand_peel, NotAPlan, NotMet, FirstNotMet}
use Rattle.answers.proofs.Tests.{Decides, either, below}

differs : (m n : ℕ) → Decides (not (eqb m n)) (m ≢ n)
differs m n = (λ e d. false≢true (rw (eq-eqb m n d) at e), λ d. rw (ne_eqb m n d))

module _ (t : Table) (few : count t ≤ 16) (w : Settings) where
  -- the numbers as they are read
  abbrev pub numbers : Amounts
  numbers = amounts_in 2 0 (count t) w.plan

  shift-here : (k : ℕ) → k < count t → get_or numbers.shifts k 0 ≡ hand_shift w k
  shift-here k l = (pair_read (count t) w.plan k few l).0

  peel-here : (k : ℕ) → k < count t → get_or numbers.peels k 0 ≡ hand_peel w k
  peel-here k l = (pair_read (count t) w.plan k few l).1

  -- 19
  large_is : Decides (too_large numbers) ((k : ℕ) × (k < count t) × ((10000 < hand_shift w k) ⊎ (10000 < hand_peel w k)))
  large_is = (given, made)
    where
      at : (k : ℕ) → Dec (k < count t) → large_at numbers k ≡ true → (k < count t) × ((10000 < hand_shift w k) ⊎ (10000 < hand_peel w k))
      at k (yes l) e = (
        l,
        ⊎_elim (λ h. inl (omega (arith, h, shift-here k l))) (λ h. inr (omega (arith, h, peel-here k l)))
            ((either _ _ (below 10000 (get_or numbers.shifts k 0)) (below 10000 (get_or numbers.peels k 0))).0 e),
      )
      at k (no l) e =
          absurd (⊎_elim (λ h. omega (arith, h, (amount-past 2 0 (count t) w.plan k (omega arith)).0))
          (λ h. omega (arith, h, (amount-past 2 0 (count t) w.plan k (omega arith)).1))
          ((either _ _ (below 10000 (get_or numbers.shifts k 0)) (below 10000 (get_or numbers.peels k 0))).0 e))

      given : too_large numbers ≡ true → (k : ℕ) × (k < count t) × ((10000 < hand_shift w k) ⊎ (10000 < hand_peel w k))
      given e = let (k, l, f) = some-which 16 (large_at numbers) e in let (i, h) = at k (dec_lt k (count t)) f in (k, i, h)

      made : ((k : ℕ) × (k < count t) × ((10000 < hand_shift w k) ⊎ (10000 < hand_peel w k))) → too_large numbers ≡ true
      made (k, l, h) =
          some-here 16 k (large_at numbers) (omega arith)
          ((either _ _ (below 10000 (get_or numbers.shifts k 0)) (below 10000 (get_or numbers.peels k 0))).1
          (⊎_elim (λ g. inl (omega (arith, shift-here k l))) (λ g. inr (omega (arith, peel-here k l))) h))

  pub nineteen-is : Decides (not (eqb w.size (8 * count t)) || too_large numbers) (NotAPlan t w)
  nineteen-is = either (not (eqb w.size (8 * count t))) (too_large numbers) (differs w.size (8 * count t)) large_is

  -- 20
  abbrev miss : Reference → Reference → Bool
  miss = missed (graph t) numbers.shifts numbers.peels

  module _ (x y : Reference) (d : Dependence (graph t) x y) where
    near-x : x.number < count t
    near-x = (all_refs-refs t x d.from).0

    near-y : y.number < count t
    near-y = (all_refs-refs t y d.to).0

    short-is : Decides (miss x y)
        ((hand_shift w y.number < hand_shift w x.number + backward x y) ⊎ (hand_peel w y.number < hand_peel w x.number + forward x y))
    short-is = (
      λ e. ⊎_elim (λ h. inl (omega (arith, h, shift-here x.number near-x, shift-here y.number near-y)))
          (λ h. inr (omega (arith, h, peel-here x.number near-x, peel-here y.number near-y))) ((missed-is (graph t) numbers.shifts numbers.peels x y).0 e),
      λ s. (missed-is (graph t) numbers.shifts numbers.peels x y).1
          (⊎_elim (λ h. inl (omega (arith, h, shift-here x.number near-x, shift-here y.number near-y)))
          (λ h. inr (omega (arith, h, peel-here x.number near-x, peel-here y.number near-y))) s),
    )

  unmet-not : (j k : ℕ) → Unmet (graph t) miss j k → NotMet t w j k
  unmet-not j k u =
      subst (λ (i : ℕ). NotMet t w i k) u.from (subst (λ (m : ℕ). NotMet t w u.x.number m) u.to (record {
        x = u.x;
        y = u.y;
        dependence = u.dependence;
        from = refl;
        to = refl;
        short = (short-is u.x u.y u.dependence).0 u.missed-is;
      }))

  pub not-unmet : (j k : ℕ) → NotMet t w j k → Unmet (graph t) miss j k
  not-unmet j k n = record {
    x = n.x;
    y = n.y;
    dependence = n.dependence;
    from = n.from;
    to = n.to;
    missed-is = (short-is n.x n.y n.dependence).1 (rw (n.from, n.to) n.short);
  }

  -- given, it is the first pair
  pub twenty-given : first_unmet t numbers < 256 → FirstNotMet t w (first_unmet t numbers / 16) (first_unmet t numbers % 16)
  twenty-given l =
      let f = first-unmet (graph t) miss (all_refs-below t few) l in
      record {
        here = unmet-not _ _ f.here;
        lowest-earlier = λ i m a n. f.lowest-earlier i m a (not-unmet i m n);
        lowest-later = λ m a n. f.lowest-later m a (not-unmet _ m n);
      }

  -- and the first pair is given
  pub twenty-is : (j k : ℕ) → FirstNotMet t w j k → (first_unmet t numbers < 256) × (first_unmet t numbers / 16 ≡ j) × (first_unmet t numbers % 16 ≡ k)
  twenty-is j k n =
      let near-j = (all_refs-refs t n.here.x n.here.dependence.from).0 in
      let near-k = (all_refs-refs t n.here.y n.here.dependence.to).0 in
      let e = unmet-first (graph t) miss (all_refs-below t few) j k (record {
        here = not-unmet j k n.here;
        lowest-earlier = λ i m a u. n.lowest-earlier i m a (unmet-not i m u);
        lowest-later = λ m a u. n.lowest-later m a (unmet-not j m u);
      }) in
      let a : j < 16 = omega (arith, near-j, n.here.from, few) in
      let b : k < 16 = omega (arith, near-k, n.here.to, few) in
      (omega (arith, e), omega (arith, e), omega (arith, e))
