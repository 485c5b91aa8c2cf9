-- The test decides whether two loops meet.
use Prim.Native.Nat.{ℕ, zero, suc, ◌+◌, ◌-◌, min, max, ◌≤◌, ◌<◌}
use native.Mathlib.Omega.{arith}
use Rattle.std.proofs.Math.Decide.{dec_le}
use Rattle.std.specs.Prelude.{◌≡◌, Bool, ◌||◌, leb}
use Rattle.std.proofs.Common.{sym, ◌∙◌}
use Rattle.std.proofs.Math.Logic.{⊎_elim}
use Rattle.std.proofs.Math.Bool.{true, or-true}
use Rattle.std.proofs.lemmas.Bool.{false≢true}
use borrow.Author.Tests.{leb-true, le-leb}
use Rattle.overlap.specs.Booleans.{both_true, either_true, same_test}
use Rattle.overlap.specs.Overlap.{some_from, is_inside, meeting, overlap}

module _ (p : ℕ → Bool) where
  -- `some_from` as a proposition
  pub some_is : (n f : ℕ) → some_from p f n ≡ true → (i : ℕ) × (f ≤ i) × (i < f + n) × (p i ≡ true)
  unfolding some_from
  some_is zero f e = absurd (false≢true e)
  some_is (suc n) f e =
      ⊎_elim (λ h. (f, omega arith, omega arith, h)) (λ h. let (i, a, b, q) = some_is n (suc f) h in (i, omega arith, omega arith, q))
      (either_true (p f) (some_from p (suc f) n) e)

  pub is_some : (n f i : ℕ) → f ≤ i → i < f + n → p i ≡ true → some_from p f n ≡ true
  unfolding some_from
  is_some zero f i a b e = absurd (omega arith)
  is_some (suc n) f i a b e = go (dec_le i f) (is_some n (suc f) i)
    where
      go : Dec (i ≤ f) → (suc f ≤ i → i < suc f + n → p i ≡ true → some_from p (suc f) n ≡ true) → (p f || some_from p (suc f) n) ≡ true
      go (yes l) ih = let z : f ≡ i = omega arith in rw (z, e)
      go (no l) ih = rw (ih (omega arith) (omega arith) e) (or-true (p f))

module _ (f l o f' l' o' : ℕ) where
  -- iterations of both loops, in their bounds, at one element
  abbrev pub Meeting : Type 0
  Meeting = (i : ℕ) × (j : ℕ) × (f ≤ i) × (i ≤ l) × (f' ≤ j) × (j ≤ l') × (i + o ≡ j + o')

  pub meeting-is : meeting f l o f' l' o' ≡ true → Meeting
  unfolding meeting
  meeting-is e =
      let (i, a, b, q) = some_is (λ i. is_inside f' l' o' i o) (suc l - f) f e in
      let (u, v) = both_true (leb (f' + o') (i + o)) (leb (i + o) (l' + o')) q in
      let low = leb-true (f' + o') (i + o) u in
      let high = leb-true (i + o) (l' + o') v in
      (i, i + o - o', a, omega arith, omega (arith, low), omega (arith, low, high), omega (arith, low))

  pub is-meeting : Meeting → meeting f l o f' l' o' ≡ true
  unfolding meeting
  is-meeting (i, j, a, b, c, d, e) =
      is_some (λ i. is_inside f' l' o' i o) (suc l - f) f i a (omega arith)
      (rw (le-leb (f' + o') (i + o) (omega arith), le-leb (i + o) (l' + o') (omega arith)))

  -- the test is the definition
  pub overlap-meeting : overlap f l o f' l' o' ≡ meeting f l o f' l' o'
  unfolding overlap
  overlap-meeting = same_test (overlap f l o f' l' o') (meeting f l o f' l' o') found given
    where
      found : overlap f l o f' l' o' ≡ true → meeting f l o f' l' o' ≡ true
      found e =
          let h = leb-true (max (f + o) (f' + o')) (min (l + o) (l' + o')) e in
          is-meeting (max (f + o) (f' + o') - o, max (f + o) (f' + o') - o', omega arith, omega arith, omega arith, omega arith, omega arith)

      given : meeting f l o f' l' o' ≡ true → overlap f l o f' l' o' ≡ true
      given e = let (i, j, a, b, c, d, g) = meeting-is e in le-leb (max (f + o) (f' + o')) (min (l + o) (l' + o')) (omega arith)

  -- so it finds iterations, and finds any that there are
  pub overlap-is : overlap f l o f' l' o' ≡ true → Meeting
  overlap-is e = meeting-is (sym overlap-meeting ∙ e)

  pub is-overlap : Meeting → overlap f l o f' l' o' ≡ true
  is-overlap m = overlap-meeting ∙ is-meeting m
