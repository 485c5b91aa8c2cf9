-- Laws of the count of iterations that have a smaller sum.
use Rattle.std.specs.Prelude.{◌≡◌, refl, List, ℕ, zero, suc, ◌+◌, ◌-◌, ◌*◌, ◌≤◌, ◌<◌, get_or}
use Rattle.std.proofs.Common.{sym, ◌∙◌, ap, mul-add, mul-zero}
use Rattle.std.proofs.Math.Decide.{dec_le, dec_lt}
use native.Mathlib.Omega.{arith}
use Rattle.std.proofs.Math.ListN.{length}
use Rattle.order.specs.Sequences.{joined}
use Rattle.model.specs.declared.Iteration.{Iteration}
use Rattle.model.specs.Table.{iteration}
use Rattle.blocks.specs.declared.Range.{Range}
use Rattle.blocks.specs.Sums.{total}
use Rattle.blocks.specs.SumLaws.{total-same, total-zero, total-add, largest-bound}
use Rattle.lists.specs.Joined.{length-joined, nth-joined, length-ones}
use Rattle.lists.specs.Lists.{loop_at, here, sum_at, sum_bound, by_sums, loop_over, over, by_loops}
use Rattle.lists.proofs.Order.{loop-at-in, loop-at-early, loop-at-late}
use Rattle.lists.specs.Below.{clip, weighted, below}

-- one more from t to t + 1, where the range has t - s
pub clip-next : (r : Range) (s t k : ℕ) → clip r s (suc t) ≡ clip r s t + length (loop_at r s t k)
clip-next r s t k = go (dec_le (r.from + s) t) (dec_lt t (r.past + s))
  where
    go : Dec (r.from + s ≤ t) → Dec (t < r.past + s) → clip r s (suc t) ≡ clip r s t + length (loop_at r s t k)
    go (yes g) (yes h) = rw (loop-at-in r s t k g h) (omega arith)
    go (yes g) (no h) = rw (loop-at-late r s t k (omega arith)) (omega arith)
    go (no g) h = rw (loop-at-early r s t k (omega arith)) (omega arith)

module _ (K : ℕ) (r : ℕ → Range) (s w : ℕ → ℕ) where
  pub below-zero : below K r s w 0 ≡ 0
  unfolding below weighted
  below-zero = total-zero K (weighted r s w 0) (λ k l. let e : clip (r k) (s k) 0 ≡ 0 = omega arith in rw e (mul-zero (w k)))

  -- the next sum adds each loop that has it, by its weight
  pub below_next : (t : ℕ) → below K r s w (suc t) ≡ below K r s w t + total K (λ k. w k * length (here r s t k))
  unfolding below weighted
  below_next t =
      total-add K (weighted r s w (suc t)) (weighted r s w t) (λ k. w k * length (here r s t k))
      (λ k l. rw (clip-next (r k) (s k) t k) (mul-add (w k) (clip (r k) (s k) t) (length (here r s t k))))

  below_up : (t d u : ℕ) → u ≡ t + d → below K r s w t ≤ below K r s w u
  below_up t zero u e = let q : u ≡ t = omega arith in rw q (omega arith)
  below_up t (suc d) u e =
      let q : u ≡ suc (t + d) = omega arith in
      rw q (omega (arith, below_up t d (t + d) refl, below_next (t + d)))

  -- if more are below u than below t, t comes first
  pub below-first : (t u n : ℕ) → below K r s w t ≤ n → n < below K r s w u → t < u
  below-first t u n g h = go (dec_lt t u)
    where
      go : Dec (t < u) → t < u
      go (yes l) = l
      go (no l) = absurd (omega (arith, below_up u (t - u) t (omega arith)))

  -- past the bound there is nothing
  pub below-bound : below K r s w (sum_bound K r s) ≡ total K (λ k. w k * ((r k).past - (r k).from))
  unfolding below weighted sum_bound
  below-bound =
      total-same K (weighted r s w (sum_bound K r s)) (λ k. w k * ((r k).past - (r k).from))
      (λ k l.
      let e : clip (r k) (s k) (sum_bound K r s) ≡ (r k).past - (r k).from = omega (arith, largest-bound K k (λ j. (r j).past + s j) l) in
      rw e)

  -- for lists g t, one for each sum t, that are as long as the weights say
  module _ {A : Type 0} (g : ℕ → List A) (long : (t : ℕ) → length (g t) ≡ total K (λ k. w k * length (here r s t k))) where
    -- what comes below t is the first lists
    pub below-lists : (t : ℕ) → length (joined t g) ≡ below K r s w t
    below-lists zero = sym below-zero
    below-lists (suc t) = length-joined g (suc t) ∙ omega (arith, length-joined g t, below-lists t, long t, below_next t)

    pub sum_left : (t n : ℕ) → below K r s w t ≤ n → n < below K r s w (suc t) → n - below K r s w t < length (g t)
    sum_left t n l h = omega (arith, below_next t, long t)

    -- the n-th stands in the list of the sum t with below t ≤ n < below (t + 1)
    pub sum-nth : (d : A) (t n : ℕ) → t < sum_bound K r s → below K r s w t ≤ n → n < below K r s w (suc t)
        → get_or (joined (sum_bound K r s) g) n d ≡ get_or (g t) (n - below K r s w t) d
    sum-nth d t n l i h =
        let e : n ≡ length (joined t g) + (n - below K r s w t) = omega (arith, below-lists t) in
        ap (λ (m : ℕ). get_or (joined (sum_bound K r s) g) m d) e
        ∙ nth-joined g d (sum_bound K r s) t (n - below K r s w t) l (sum_left t n i h)

  -- one index
  module _ (ones : (k : ℕ) → k < K → w k ≡ 1) where
    sum-at-length : (t : ℕ) → length (sum_at K r s t) ≡ total K (λ k. w k * length (here r s t k))
    unfolding sum_at
    sum-at-length t =
        length-joined (here r s t) K
        ∙ total-same K (λ k. length (here r s t k)) (λ k. w k * length (here r s t k)) (λ k l. rw (ones k l) (omega arith))

    pub by-sums-nth : (d : Iteration) (t n : ℕ) → t < sum_bound K r s → below K r s w t ≤ n → n < below K r s w (suc t)
        → get_or (by_sums K r s) n d ≡ get_or (sum_at K r s t) (n - below K r s w t) d
    unfolding by_sums
    by-sums-nth = sum-nth (sum_at K r s) sum-at-length

    pub by-sums-below : length (by_sums K r s) ≡ below K r s w (sum_bound K r s)
    unfolding by_sums
    by-sums-below = below-lists (sum_at K r s) sum-at-length (sum_bound K r s)

-- both lists have as many iterations as the ranges have indices in all
abbrev pub indices_in : ℕ → (ℕ → Range) → ℕ
indices_in K r = total K (λ k. (r k).past - (r k).from)

module _ (K : ℕ) (r : ℕ → Range) where
  pub by-sums-length : (s : ℕ → ℕ) → length (by_sums K r s) ≡ indices_in K r
  by-sums-length s =
      by-sums-below K r s (λ k. 1) (λ k l. refl) ∙ below-bound K r s (λ k. 1)
      ∙ total-same K (λ k. 1 * ((r k).past - (r k).from)) (λ k. (r k).past - (r k).from) (λ k l. omega arith)

  pub by-loops-length : length (by_loops K r) ≡ indices_in K r
  unfolding by_loops loop_over
  by-loops-length =
      length-joined (over r) K
      ∙ total-same K (λ k. length (over r k)) (λ k. (r k).past - (r k).from)
      (λ k l. length-ones (λ j. iteration k ((r k).from + j)) ((r k).past - (r k).from))
