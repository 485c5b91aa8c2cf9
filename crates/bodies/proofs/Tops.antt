-- How a store to the array of waiting values shows in the list of those that wait.
use mathlib.Core.Path.{◌≡◌, refl, ap, ap₂, ◌∙◌}
use mathlib.Core.List.{List, ◌∷◌}
use Prim.Native.Nat.{ℕ, zero, suc, ◌+◌, ◌-◌, ◌≤◌, ◌<◌}
use native.Mathlib.Nat.{ne_of_lt}
use native.Mathlib.Numerals.{add-one}
use native.Mathlib.Omega.{arith}
use lib.ListN.{length, get_or, set, length-set}
use lib.Seq.{get_or-set_same, get_or-set_other}
use lib.Ieee.{Float, nan, neg}
use Rattle.bodies.specs.Stack.{tops, Holds}
use Rattle.model.specs.Bodies.{negated, combined, binary}

-- a store above the first n is not seen
pub above : (vs : List Float) (n i : ℕ) (x : Float) → n ≤ i → tops (set vs i x) n ≡ tops vs n
unfolding tops
above vs zero i x h = refl
above vs (suc n) i x h = ap₂ (λ (a : Float) (s : List Float). a ∷ s) (get_or-set_other vs i n x nan (ne_of_lt h)) (above vs n i x (omega arith))

-- one value more
pub more : (vs : List Float) (n : ℕ) (x : Float) → n < length vs → tops (set vs n x) (n + 1) ≡ x ∷ tops vs n
unfolding tops
more vs n x h = rw (add-one, get_or-set_same vs n x nan, above vs n n x (omega arith))

-- the top one, and the two top ones
pub top : (vs : List Float) (n : ℕ) → 1 ≤ n → tops vs n ≡ get_or vs (n - 1) nan ∷ tops vs (n - 1)
unfolding tops
top vs zero h = absurd (omega arith)
top vs (suc n) h =
    let e : n ≡ suc n - 1 = omega arith in
    ap (λ (k : ℕ). get_or vs k nan ∷ tops vs k) e

-- a store to the top one
pub stored : (vs : List Float) (n : ℕ) (x : Float) → 1 ≤ n → n - 1 < length vs → tops (set vs (n - 1) x) n ≡ x ∷ tops vs (n - 1)
stored vs n x h l =
    let e : n ≡ (n - 1) + 1 = omega arith in
    ap (tops (set vs (n - 1) x)) e ∙ more vs (n - 1) x l

-- WHAT THE ARRAY THEN HOLDS
module _ (vs : List Float) (n : ℕ) (long : length vs ≡ 8) where
  pub pushed : (x : Float) → n < 8 → Holds (set vs n x) (n + 1) (x ∷ tops vs n) (n + 1)
  pushed x h = (length-set vs n x ∙ long, more vs n x (omega arith), refl)

  pub negated-top : 1 ≤ n → n ≤ 8 → Holds (set vs (n - 1) (neg (get_or vs (n - 1) nan))) n (negated (tops vs n)) n
  unfolding negated
  negated-top h m =
      let inside : n - 1 < length vs = omega arith in
      (length-set vs (n - 1) _ ∙ long, rw (stored vs n _ h inside, top vs n h), refl)

  pub combined-tops : (op : ℕ) (x : Float) → 2 ≤ n → n ≤ 8 → x ≡ binary op (get_or vs (n - 2) nan) (get_or vs (n - 1) nan)
      → Holds (set vs (n - 2) x) (n - 1) (combined op (tops vs n)) (n - 1)
  unfolding combined
  combined-tops op x h m f =
      let e : n - 1 ≡ (n - 2) + 1 = omega arith in
      let g : n - 1 - 1 ≡ n - 2 = omega arith in
      let h1 : 1 ≤ n = omega arith in
      let h2 : 1 ≤ n - 1 = omega arith in
      let inside : n - 2 < length vs = omega arith in
      (length-set vs (n - 2) x ∙ long, rw (f, top vs n h1, top vs (n - 1) h2, g, e, more vs (n - 2) _ inside), refl)
