-- What stands in the lists, that it stands there once, and in which order. Assumes nothing.
use Rattle.std.specs.Prelude.{◌≡◌, ◌⊎◌, ◌↔◌, ℕ, suc, ◌+◌, ◌-◌, ◌*◌, ◌≤◌, ◌<◌}
use Rattle.std.proofs.Math.Path.{sym, ap}
use Rattle.std.proofs.Common.{◌∙◌, mul-le-mul_right}
use Rattle.std.proofs.Math.Logic.{inl, inr, ⊎_elim}
use mathlib.Core.List.Memᴰ
use mathlib.Core.List.{List, [], ◌∷◌}
use mathlib.Core.List.Memᴰ.{head as mhere}
use mathlib.Core.List.{Memᴰ as Mem}
use Rattle.std.proofs.Math.Decide.{dec_le, dec_lt}
use native.Mathlib.Omega.{arith}
use borrow.Author.Tests.{lt-ltb, le-ltb, le-leb, lt-leb}
use Rattle.order.specs.Sequences.{Before, NoDup, joined}
use Rattle.order.specs.Lists.{before-left, before-right, mem-joined, joined-mem, before-joined, joined_same}
use Rattle.model.specs.declared.Iteration.{Iteration}
use Rattle.model.specs.Table.{iteration}
use Rattle.blocks.specs.declared.Range.{Range}
use Rattle.blocks.specs.SumLaws.{largest-bound, largest-same}
use Rattle.blocks.specs.PartLaws.{In}
use Rattle.lists.specs.Joined.{before-one}
use Rattle.lists.specs.Lists.{loop_at, here, sum_at, sum_bound, by_sums, loop_over, over, by_loops}

-- an order by two numbers
abbrev pub Less : ℕ → ℕ → ℕ → ℕ → Type 0
Less a b c d = (a < c) ⊎ ((a ≡ c) × (b < d))

-- one number for it, where the second is below n
pub less-key : (n a b c d : ℕ) → b < n → Less a b c d → a * n + b < c * n + d
less-key n a b c d l =
    ⊎_elim
    (λ h. omega (arith, mul-le-mul_right {m = suc a} {n = c} n h))
    (λ h. let q : a ≤ c = omega arith in omega (arith, mul-le-mul_right {m = a} {n = c} n q))

-- what stands before is less: so nothing stands there twice
pub less-once : {A : Type 0} (f g : A → ℕ) (l : List A) → ((x y : A) → Before x y l → Less (f x) (g x) (f y) (g y)) → NoDup l
less-once f g l rises x b = ⊎_elim (λ h. omega arith) (λ h. omega arith) (rises x x b)

-- x is an iteration of one of K loops, in its range
pub record Within (K : ℕ) (r : ℕ → Range) (x : Iteration) : Type 0 where
  pub loop : x.number < K
  pub inside : In x.index (r x.number)

-- ONE LOOP AT ONE SUM
module _ (r : Range) (s t k : ℕ) where
  pub loop-at-in : r.from + s ≤ t → t < r.past + s → loop_at r s t k ≡ iteration k (t - s) ∷ []
  unfolding loop_at
  loop-at-in g h = simp (le-leb (r.from + s) t g, lt-ltb t (r.past + s) h)

  pub loop-at-early : t < r.from + s → loop_at r s t k ≡ []
  unfolding loop_at
  loop-at-early g = simp (lt-leb (r.from + s) t g)

  pub loop-at-late : r.past + s ≤ t → loop_at r s t k ≡ []
  unfolding loop_at
  loop-at-late h = go (dec_le (r.from + s) t)
    where
      go : Dec (r.from + s ≤ t) → loop_at r s t k ≡ []
      go (yes g) = simp (le-leb (r.from + s) t g, le-ltb t (r.past + s) h)
      go (no g) = loop-at-early (omega arith)

  -- it has one iteration there, or none
  pub loop-at : ((r.from + s ≤ t) × (t < r.past + s) × (loop_at r s t k ≡ iteration k (t - s) ∷ [])) ⊎ (loop_at r s t k ≡ [])
  loop-at = go (dec_le (r.from + s) t) (dec_lt t (r.past + s))
    where
      go : Dec (r.from + s ≤ t) → Dec (t < r.past + s)
          → ((r.from + s ≤ t) × (t < r.past + s) × (loop_at r s t k ≡ iteration k (t - s) ∷ [])) ⊎ (loop_at r s t k ≡ [])
      go (yes g) (yes h) = inl (g, h, loop-at-in g h)
      go (yes g) (no h) = inr (loop-at-late (omega arith))
      go (no g) h = inr (loop-at-early (omega arith))

  pub loop-at-mem : (x : Iteration) → Mem x (loop_at r s t k) → (x.number ≡ k) × (x.index + s ≡ t) × In x.index r
  loop-at-mem x m =
      ⊎_elim
      (λ (g, h, e).
      let q : x ≡ iteration k (t - s) = Memᴰ.eq_of_singleton (rw e at m) in
      let i = ap (λ (y : Iteration). y.index) q in
      (ap (λ (y : Iteration). y.number) q, omega arith, (omega arith, omega arith)))
      (λ e. absurd (Memᴰ.not-nil (rw e at m)))
      loop-at

  pub loop-at-before : (x y : Iteration) → Before x y (loop_at r s t k) → ⊥
  loop-at-before x y b =
      ⊎_elim (λ (g, h, e). before-one (rw e at b)) (λ e. Memᴰ.not-nil (before-left (rw e at b))) loop-at

pub mem-loop-at : (r : Range) (s k i : ℕ) → In i r → Mem (iteration k i) (loop_at r s (i + s) k)
mem-loop-at r s k i h =
    let e : i ≡ i + s - s = omega arith in
    rw (loop-at-in r s (i + s) k (omega arith) (omega arith)) (mhere (ap (iteration k) e))

-- THE FUSED LIST
module _ (K : ℕ) (r : ℕ → Range) (s : ℕ → ℕ) where
  abbrev pub sum : Iteration → ℕ
  sum x = x.index + s x.number

  sum-at-mem : (t : ℕ) (x : Iteration) → Mem x (sum_at K r s t) → Within K r x × (sum x ≡ t)
  unfolding sum_at
  sum-at-mem t x m =
      let (k, l, h) = mem-joined (here r s t) K m in
      let (e, q, i) = loop-at-mem (r k) (s k) t k x h in
      rest k l e q i
    where
      rest : (k : ℕ) → k < K → x.number ≡ k → x.index + s k ≡ t → In x.index (r k) → Within K r x × (sum x ≡ t)
      rest k l e q i = (record { loop = omega arith; inside = rw e i }, rw e q)

  sum-at-before : (t : ℕ) (x y : Iteration) → Before x y (sum_at K r s t) → x.number < y.number
  unfolding sum_at
  sum-at-before t x y b =
      ⊎_elim
      (λ (k, l, h). absurd (loop-at-before (r k) (s k) t k x y h))
      (λ (j, k, l, i, g, h). omega (arith, (loop-at-mem (r j) (s j) t j x g).0, (loop-at-mem (r k) (s k) t k y h).0))
      (before-joined (here r s t) K b)

  -- the iterations of the ranges, and nothing else
  pub by-sums-mem : (x : Iteration) → Mem x (by_sums K r s) ↔ Within K r x
  unfolding by_sums sum_at sum_bound
  by-sums-mem x = (to, from)
    where
      to : Mem x (by_sums K r s) → Within K r x
      to m = let (t, l, h) = mem-joined (sum_at K r s) (sum_bound K r s) m in (sum-at-mem t x h).0

      from : Within K r x → Mem x (by_sums K r s)
      from w =
          let k = x.number in
          joined-mem (sum_at K r s) (sum_bound K r s) (sum x)
          (omega (arith, largest-bound K k (λ j. (r j).past + s j) w.loop, w.inside.1))
          (joined-mem (here r s (sum x)) K k w.loop (mem-loop-at (r k) (s k) k x.index w.inside))

  -- i + s rises, equal sums are in loop order
  pub by-sums-before : (x y : Iteration) → Before x y (by_sums K r s) → Less (sum x) x.number (sum y) y.number
  unfolding by_sums
  by-sums-before x y b =
      ⊎_elim
      (λ (t, l, h). inr ((sum-at-mem t x (before-left h)).1 ∙ sym (sum-at-mem t y (before-right h)).1, sum-at-before t x y h))
      (λ (t, u, l, i, g, h). inl (omega (arith, (sum-at-mem t x g).1, (sum-at-mem u y h).1)))
      (before-joined (sum_at K r s) (sum_bound K r s) b)

  -- it depends on the ranges and shifts of the K loops alone
  pub by-sums-same : (q : ℕ → Range) (u : ℕ → ℕ) → ((k : ℕ) → k < K → q k ≡ r k) → ((k : ℕ) → k < K → u k ≡ s k)
      → by_sums K q u ≡ by_sums K r s
  unfolding by_sums sum_at sum_bound
  by-sums-same q u e f =
      ap (λ (n : ℕ). joined n (sum_at K q u))
      (largest-same K (λ k. (q k).past + u k) (λ k. (r k).past + s k) (λ k l. rw (e k l, f k l)))
      ∙ joined_same (sum_at K r s) (sum_at K q u) (sum_bound K r s)
      (λ t i. joined_same (here r s t) (here q u t) K (λ k l. rw (e k l, f k l)))

-- THE PEELED LIST
module _ (r : Range) (k : ℕ) where
  pub loop-over-mem : (x : Iteration) → Mem x (loop_over r k) → (x.number ≡ k) × In x.index r
  unfolding loop_over
  loop-over-mem x m =
      let (j, l, h) = mem-joined (λ j. iteration k (r.from + j) ∷ []) (r.past - r.from) m in
      let e = Memᴰ.eq_of_singleton h in
      let q = ap (λ (y : Iteration). y.index) e in
      (ap (λ (y : Iteration). y.number) e, (omega arith, omega arith))

  pub mem-loop-over : (i : ℕ) → In i r → Mem (iteration k i) (loop_over r k)
  unfolding loop_over
  mem-loop-over i h =
      let e : i ≡ r.from + (i - r.from) = omega arith in
      joined-mem (λ j. iteration k (r.from + j) ∷ []) (r.past - r.from) (i - r.from) (omega arith) (mhere (ap (iteration k) e))

  pub loop-over-before : (x y : Iteration) → Before x y (loop_over r k) → x.index < y.index
  unfolding loop_over
  loop-over-before x y b =
      ⊎_elim
      (λ (j, l, h). absurd (before-one h))
      (λ (j, m, l, o, g, h). omega (arith, ap (λ (z : Iteration). z.index) (Memᴰ.eq_of_singleton g), ap (λ (z : Iteration). z.index) (Memᴰ.eq_of_singleton h)))
      (before-joined (λ j. iteration k (r.from + j) ∷ []) (r.past - r.from) b)

module _ (K : ℕ) (r : ℕ → Range) where
  pub by-loops-mem : (x : Iteration) → Mem x (by_loops K r) ↔ Within K r x
  unfolding by_loops
  by-loops-mem x = (to, from)
    where
      rest : (k : ℕ) → k < K → (x.number ≡ k) × In x.index (r k) → Within K r x
      rest k l (e, i) = record { loop = omega arith; inside = rw e i }

      to : Mem x (by_loops K r) → Within K r x
      to m = let (k, l, h) = mem-joined (over r) K m in rest k l (loop-over-mem (r k) k x h)

      from : Within K r x → Mem x (by_loops K r)
      from w = let k = x.number in joined-mem (over r) K k w.loop (mem-loop-over (r k) k x.index w.inside)

  -- loop by loop, i rises
  pub by-loops-before : (x y : Iteration) → Before x y (by_loops K r) → Less x.number x.index y.number y.index
  unfolding by_loops
  by-loops-before x y b =
      ⊎_elim
      (λ (k, l, h).
      inr ((loop-over-mem (r k) k x (before-left h)).0 ∙ sym (loop-over-mem (r k) k y (before-right h)).0, loop-over-before (r k) k x y h))
      (λ (j, k, l, i, g, h). inl (omega (arith, (loop-over-mem (r j) j x g).0, (loop-over-mem (r k) k y h).0)))
      (before-joined (over r) K b)

  pub by-loops-once : NoDup (by_loops K r)
  by-loops-once = less-once (λ x. x.number) (λ x. x.index) (by_loops K r) by-loops-before

  pub by-loops-same : (q : ℕ → Range) → ((k : ℕ) → k < K → q k ≡ r k) → by_loops K q ≡ by_loops K r
  unfolding by_loops
  by-loops-same q e = joined_same (over r) (over q) K (λ k l. ap (λ (z : Range). loop_over z k) (e k l))
