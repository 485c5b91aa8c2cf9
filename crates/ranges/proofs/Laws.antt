-- The walk over the loops that keeps their ranges, and the sum of their indices.
use Prim.Native.Nat.{ℕ, ◌+◌, ◌-◌, ◌*◌, ◌≤◌, ◌<◌}
use native.Mathlib.Omega.{arith}
use native.Mathlib.Decide.{ℕ_discrete}
use mathlib.Core.Path.{◌≡◌, refl, ap, ◌∙◌}
use mathlib.Core.List.{List}
use lib.ListN.{length, set}
use lib.Seq.{get_or-set_same, get_or-set_other}
use Rattle.blocks.specs.declared.Axis.{Axis}
use Rattle.blocks.specs.declared.Range.{Range}
use Rattle.records.specs.declared.storage.Store.{Store}
use Rattle.reader.specs.Store.{loops_in}
use Rattle.plans.specs.Code.{Laid}
use Rattle.blocks.specs.Sums.{column}
use Rattle.blocks.specs.SumLaws.{total-next}
use Rattle.lists.proofs.BelowLaws.{indices_in}
use Rattle.ranges.specs.declared.phase_ranges.PhaseRanges.{PhaseRanges}
use Rattle.ranges.specs.Code.{range_of, RangesKept}
use Rattle.ranges.specs.Listed.{range_small}

-- the first k loops' ranges are kept, and `sum` counts their indices
pub record Filled (x : PhaseRanges) (k : ℕ) (f : ℕ → Range) (s : ℕ → ℕ) (sum : ℕ) : Type 0 where
  pub kept : RangesKept x k f s
  pub sum_is : sum ≡ indices_in k f
  pub small : sum ≤ k * 65791

pub filled_none : (x : PhaseRanges) (f : ℕ → Range) (s : ℕ → ℕ) → Filled x 0 f s 0
filled_none x f s = record {
  kept = record { from = λ k l. absurd (omega arith); past = λ k l. absurd (omega arith); shift = λ k l. absurd (omega arith) };
  sum_is = refl;
  small = omega arith;
}

-- a column whose first k numbers are those of v, with one more
column-next : (xs ys : List ℕ) (v : ℕ → ℕ) (k n : ℕ) → k < length xs → ys ≡ set xs k n → n ≡ v k → ((j : ℕ) → j < k → column xs j ≡ v j)
    → (j : ℕ) → j < k + 1 → column ys j ≡ v j
column-next xs ys v k n room e q f j l = rw e (go (ℕ_discrete j k))
  where
    go : Dec (j ≡ k) → column (set xs k n) j ≡ v j
    go (yes z) = rw z (get_or-set_same xs k n 0 room ∙ q)
    go (no z) = get_or-set_other xs k j n 0 z ∙ f j (omega arith)

pub filled_next : (x y : PhaseRanges) (k : ℕ) (f : ℕ → Range) (s : ℕ → ℕ) (sum : ℕ) → Filled x k f s sum → k < 16 → (from past shift n : ℕ)
    → (y.froms ≡ set x.froms k from) × (y.pasts ≡ set x.pasts k past) × (y.shifts ≡ set x.shifts k shift)
    → from ≡ (f k).from → past ≡ (f k).past → shift ≡ s k → n ≡ past - from → n ≤ 65791 → Filled y (k + 1) f s (sum + n)
filled_next x y k f s sum h few from past shift n put e g q z w = record {
  kept = record {
    from = column-next x.froms y.froms (λ j. (f j).from) k from (omega (arith, x.sized.froms_sized)) put.0 e h.kept.from;
    past = column-next x.pasts y.pasts (λ j. (f j).past) k past (omega (arith, x.sized.pasts_sized)) put.1 g h.kept.past;
    shift = column-next x.shifts y.shifts s k shift (omega (arith, x.sized.shifts_sized)) put.2 q h.kept.shift;
  };
  sum_is = total-next k (λ j. (f j).past - (f j).from) sum n h.sum_is (omega arith);
  small = omega (arith, h.small);
}

-- THE SUM of the first k loops' indices
pub record Summed (a : Axis) (c : Store) (n b k sum : ℕ) : Type 0 where
  pub sum_is : sum ≡ indices_in k (range_of n a c b)
  pub small : sum ≤ k * 65791

pub summed-next : (a : Axis) (c : Store) (h : Laid a c) (n b k sum x : ℕ) (r : Range) → k < loops_in c → Summed a c n b k sum → r ≡ range_of n a c b k → x ≡ r.past - r.from
    → Summed a c n b (k + 1) (sum + x)
summed-next a c h n b k sum x r l s e f =
    let w : x ≡ (range_of n a c b k).past - (range_of n a c b k).from = f ∙ ap (λ (z : Range). z.past - z.from) e in
    record {
      sum_is = total-next k (λ j. (range_of n a c b j).past - (range_of n a c b j).from) sum x s.sum_is w;
      small = omega (arith, s.small, range_small a c h n b k l);
    }
