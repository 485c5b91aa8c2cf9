-- The code keeps ranges, shifts and weights in columns: what it asks of them, and what its walks and its search keep. Assumes nothing.
use Rattle.std.specs.Prelude.{◌≡◌, List, [], ◌∷◌, replicate}
use Rattle.std.proofs.Math.Path.{sym, ap}
use Rattle.std.proofs.Common.{◌∙◌, mul-le-mul}
use Rattle.std.proofs.Math.Logic.{⊎_elim}
use Prim.Native.Nat.{ℕ, zero, suc, ◌+◌, ◌-◌, ◌*◌, ◌≤◌, ◌<◌, ◌^◌}
use Rattle.std.proofs.Math.Decide.{dec_lt}
use native.Mathlib.Omega.{arith}
use Rattle.std.proofs.Math.ListN.{length, get_or, get_or-eq_default}
use Rattle.std.proofs.lemmas.List.{get_or-replicate}
use Rattle.order.specs.Sequences.{joined}
use Rattle.model.specs.declared.Iteration.{Iteration}
use Rattle.model.specs.Table.{iteration}
use Rattle.blocks.specs.declared.Range.{Range}
use Rattle.blocks.specs.Sums.{total, largest, column}
use Rattle.lists.specs.Joined.{length-ones, walk_here, walk-next, walk-out}
use Rattle.lists.specs.Lists.{here, sum_at, sum_bound, loop_over, over, by_loops, ranges, fused_columns}
use Rattle.lists.proofs.Order.{loop-at}
use Rattle.lists.specs.Below.{weighted, below}
use Rattle.lists.proofs.BelowLaws.{by-sums-nth, by-sums-below}
use Rattle.positions.specs.declared.Position.{Position}
use Rattle.positions.specs.declared.Search.{Search}

abbrev pub below_columns : List ℕ → List ℕ → List ℕ → List ℕ → ℕ → ℕ
below_columns fs ps ss ws t = below (length fs) (ranges fs ps) (column ss) (column ws) t

abbrev pub bound_columns : List ℕ → List ℕ → List ℕ → ℕ
bound_columns fs ps ss = sum_bound (length fs) (ranges fs ps) (column ss)

-- a past and a shift for each loop
pub record Aligned (fs ps ss : List ℕ) : Type 0 where
  pub pasts : length fs ≤ length ps
  pub shifts : length fs ≤ length ss

-- at most 16 loops, and a weight for each, of at most 65,536
pub record Sized (fs ps ss ws : List ℕ) : Type 0 where
  pub loops : length fs ≤ 16
  pub pasts : length fs ≤ length ps
  pub shifts : length fs ≤ length ss
  pub weights : length fs ≤ length ws
  pub small : (k : ℕ) → column ws k ≤ 65536

-- the sums from low up to high have the n-th iteration
pub record Bracket (fs ps ss ws : List ℕ) (n : ℕ) (s : Search) : Type 0 where
  pub rising : s.low < s.high
  pub inside : s.high < 2 ^ 33
  pub value : s.under ≡ below_columns fs ps ss ws s.low
  pub before : s.under ≤ n
  pub after : n < below_columns fs ps ss ws s.high

-- the sum that the n-th iteration has
pub record Located (fs ps ss ws : List ℕ) (most n : ℕ) (r : Position) : Type 0 where
  pub inside : r.sum < most
  pub low : below_columns fs ps ss ws r.sum ≤ n
  pub high : n < below_columns fs ps ss ws (suc r.sum)
  pub before : r.before ≡ n - below_columns fs ps ss ws r.sum

pub weight-product : (w x m : ℕ) → w ≤ 65536 → x < m → w * x ≤ 65536 * m
weight-product w x m g h = let l : x ≤ m = omega arith in mul-le-mul g l

-- WALKS over the loops, that have come to the end
module _ (K : ℕ) (r : ℕ → Range) (s w : ℕ → ℕ) where
  pub below_all : (t k : ℕ) → K ≤ k → k ≤ K → total k (weighted r s w t) ≡ below K r s w t
  unfolding below
  below_all t k g h = let e : k ≡ K = omega arith in ap (λ (n : ℕ). total n (weighted r s w t)) e

  pub bound_all : (k : ℕ) → K ≤ k → k ≤ K → largest k (λ j. (r j).past + s j) ≡ sum_bound K r s
  unfolding sum_bound
  bound_all k g h = let e : k ≡ K = omega arith in ap (λ (n : ℕ). largest n (λ j. (r j).past + s j)) e

-- WALKS over the loops, that stop at loop k
module _ (K : ℕ) (r : ℕ → Range) (s : ℕ → ℕ) (t k n left : ℕ) where
  -- it has an iteration at the sum t
  pub at-sum-fits : (h : ℕ) → left < h → h ≡ length (here r s t k) → s k ≤ t
  at-sum-fits h g q =
      ⊎_elim (λ (a, b, e). omega arith) (λ e. absurd (omega (arith, ap length e))) (loop-at (r k) (s k) t k)

  pub at-sum-here : (h v : ℕ) → k < K → length (joined k (here r s t)) + left ≡ n → left < h → h ≡ length (here r s t k) → v ≡ s k
      → iteration k (t - v) ≡ get_or (sum_at K r s t) n (iteration 0 0)
  unfolding sum_at
  at-sum-here h v l e g q z =
      let i : left < length (here r s t k) = omega arith in
      rw z (sym (walk_here (here r s t) (iteration 0 0) K k n left l e i ∙ one left i))
    where
      one : (m : ℕ) → m < length (here r s t k) → get_or (here r s t k) m (iteration 0 0) ≡ iteration k (t - s k)
      one zero i =
          ⊎_elim (λ (a, b, f). rw f) (λ f. absurd (omega (arith, ap length f))) (loop-at (r k) (s k) t k)
      one (suc m) i =
          absurd (⊎_elim (λ (a, b, f). omega (arith, ap length f)) (λ f. omega (arith, ap length f)) (loop-at (r k) (s k) t k))

  pub at-sum-past : K ≤ k → k ≤ K → length (joined k (here r s t)) + left ≡ n
      → iteration 0 0 ≡ get_or (sum_at K r s t) n (iteration 0 0)
  unfolding sum_at
  at-sum-past g h e = sym (walk-out (here r s t) (iteration 0 0) K k n left g h e)

module _ (K : ℕ) (r : ℕ → Range) (k n left : ℕ) where
  over-length : length (over r k) ≡ (r k).past - (r k).from
  unfolding loop_over
  over-length = length-ones (λ j. iteration k ((r k).from + j)) ((r k).past - (r k).from)

  pub by-loops-here : (v : ℕ) → k < K → length (joined k (over r)) + left ≡ n → left < (r k).past - (r k).from → v ≡ (r k).from
      → iteration k (v + left) ≡ get_or (by_loops K r) n (iteration 0 0)
  unfolding by_loops loop_over
  by-loops-here v l e g z =
      rw z
      (sym
      (walk_here (over r) (iteration 0 0) K k n left l e (omega (arith, over-length))
      ∙ walk_here (λ j. iteration k ((r k).from + j) ∷ []) (iteration 0 0) ((r k).past - (r k).from) left left 0 g
      (omega (arith, length-ones (λ j. iteration k ((r k).from + j)) left)) (omega arith)))

  pub by-loops-next : (h : ℕ) → length (joined k (over r)) + left ≡ n → h ≡ (r k).past - (r k).from → h ≤ left
      → length (joined (k + 1) (over r)) + (left - h) ≡ n
  by-loops-next h e q g =
      let z : h ≡ length (over r k) = q ∙ sym over-length in
      rw z (walk-next (over r) k n left e (omega arith))

  pub by-loops-past : K ≤ k → k ≤ K → length (joined k (over r)) + left ≡ n → iteration 0 0 ≡ get_or (by_loops K r) n (iteration 0 0)
  unfolding by_loops
  by-loops-past g h e = sym (walk-out (over r) (iteration 0 0) K k n left g h e)

-- sixteen weights of 1
abbrev pub ones : List ℕ
ones = replicate 16 1

ones_small : (k : ℕ) → column ones k ≤ 65536
ones_small k = go (dec_lt k 16)
  where
    go : Dec (k < 16) → column ones k ≤ 65536
    go (yes l) = omega (arith, get_or-replicate {A = ℕ} 16 k 1 0 l)
    go (no g) = let h : 16 ≤ k = omega arith in omega (arith, get_or-eq_default ones 0 h)

module _ (fs ps ss : List ℕ) (few : length fs ≤ 16) where
  ones-at : (k : ℕ) → k < length fs → column ones k ≡ 1
  ones-at k l = get_or-replicate 16 k 1 0 (omega arith)

  pub ones-sized : Aligned fs ps ss → Sized fs ps ss ones
  ones-sized a = record { loops = few; pasts = a.pasts; shifts = a.shifts; weights = few; small = ones_small }

  pub ones_below : (n : ℕ) → n < length (fused_columns fs ps ss) → n < below_columns fs ps ss ones (bound_columns fs ps ss)
  ones_below n h = omega (arith, by-sums-below (length fs) (ranges fs ps) (column ss) (column ones) ones-at)

  pub ones-found : (n : ℕ) (p : Position) (x : Iteration) → Located fs ps ss ones (bound_columns fs ps ss) n p
      → x ≡ get_or (sum_at (length fs) (ranges fs ps) (column ss) p.sum) p.before (iteration 0 0)
      → x ≡ get_or (fused_columns fs ps ss) n (iteration 0 0)
  ones-found n p x h q =
      (rw h.before at q)
      ∙ sym
      (by-sums-nth (length fs) (ranges fs ps) (column ss) (column ones) ones-at (iteration 0 0) p.sum n
      h.inside h.low h.high)
