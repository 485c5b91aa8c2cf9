-- What is known of the ranges of an accepted plan: the bounds that the code's sums need, and the lists that they give.
use Prim.Native.Nat.{ℕ, zero, suc, ◌+◌, ◌-◌, ◌*◌, ◌≤◌, ◌<◌, ◌^◌, min, max}
use native.Mathlib.Omega.{arith}
use Rattle.std.specs.Prelude.{◌≡◌, Bool, eqb, length, get_or, take}
use Rattle.std.proofs.Common.{sym, ap, ◌∙◌, length-take, get_or-take}
use Rattle.std.proofs.Math.Bool.{true, false, cond}
use mathlib.Core.List.{Memᴰ as Mem}
use Rattle.order.specs.Lists.{nth-mem}
use Rattle.model.specs.Table.{count, first, last, iteration, Inside}
use Rattle.model.specs.declared.Iteration.{Iteration}
use Rattle.records.specs.declared.storage.Store.{Store}
use Rattle.reader.specs.Store.{first_at, last_at, loops_in, table_in}
use Rattle.reader.specs.Held.{count_held, first-held, last-held}
use Rattle.reader.specs.Held.{few-loops as few-held}
use Rattle.grounds.proofs.AcceptedLaws.{valid-last}
use Rattle.blocks.specs.declared.Axis.{Axis}
use Rattle.blocks.specs.declared.Part.{Part}
use Rattle.blocks.specs.declared.Part.TheVariants.{Fused, Peeled}
use Rattle.blocks.specs.declared.Range.{Range}
use Rattle.blocks.specs.Sums.{column}
use Rattle.blocks.specs.SumLaws.{total-same}
use Rattle.blocks.proofs.LineLaws.{before_last}
use Rattle.blocks.specs.Parts.{fused_part, peeled_part}
use Rattle.blocks.specs.Code.{part_of, block_in, Cuttable}
use Rattle.lists.specs.Lists.{ranges}
use Rattle.lists.proofs.BelowLaws.{indices_in, by-sums-length, by-loops-length}
use Rattle.lists.specs.Fusion.{fusion_in, fused_range, peeled_range, work}
use Rattle.lists.proofs.FusionLaws.{fused-list, peeled-list, fused-columns, peeled-columns}
use Rattle.positions.specs.Search.{Aligned}
use Rattle.plans.specs.Code.{Laid}
use Rattle.ranges.specs.declared.phase_ranges.PhaseRanges.{PhaseRanges}
use Rattle.ranges.specs.Code.{part_in, range_of, list_of, RangesKept}

module _ (a : Axis) (c : Store) (h : Laid a c) where
  -- WHAT THE CODE ASKS
  pub few-loops : loops_in c ≤ 16
  few-loops = few-held h.held

  pub loops-are : loops_in c ≡ count (table_in c)
  loops-are = sym (count_held h.held)

  pub some-blocks : 0 < a.blocks
  some-blocks = h.fit.wide.some

  pub few-blocks : a.blocks ≤ 64
  few-blocks = h.fit.few

  -- the indices end early, and a line is short
  pub cuttable : Cuttable a
  cuttable =
      let some = h.kept.some-line in
      (some, omega (arith, before_last a.count a.line a.blocks some some-blocks, h.fit.small-edge a.blocks (omega arith), h.kept.short-line))

  pub block-asks : (b : ℕ) → b < a.blocks → (b < a.blocks) × (0 < a.line) × (a.first + a.count + a.line < 2 ^ 32)
  block-asks b l = let (some, fits) = cuttable in (l, some, omega arith)

  pub last_fits : (k : ℕ) → k < loops_in c → last_at c k ≤ 65790
  last_fits k l =
      let i : k < count (table_in c) = omega (arith, loops-are) in omega (arith, last-held h.held k i, valid-last (table_in c) h.fit.valid k i)

  -- what a part's code asks of the loop and the block
  pub part-asks : (b k : ℕ) (r : Range) → b < a.blocks → k < loops_in c → r ≡ block_in a b
      → (k < 16) × (b < a.blocks) × (last_at c k < 2 ^ 31) × (r.from + column a.peels k < 2 ^ 32) × (r.past + column a.peels k < 2 ^ 32)
  part-asks b k r l i e = (
    omega (arith, few-loops),
    l,
    omega (arith, last_fits k i),
    rw e (omega (arith, h.fit.small-edge b (omega arith), h.fit.small-peel k)),
    rw e (omega (arith, h.fit.small-edge (suc b) l, h.fit.small-peel k)),
  )

  -- no range is longer than its loop
  part-past : (part : Part) (own block : Range) (b s q : ℕ) → (part_of part own block a.blocks b s q).past ≤ own.past
  unfolding fused_part peeled_part
  part-past Fused own block b s q = go (eqb (b + 1) a.blocks)
    where
      go : (x : Bool) → cond x own.past (min (block.past - s) own.past) ≤ own.past
      go true = omega arith
      go false = omega arith
  part-past Peeled own block b s q = go (eqb (b + 1) a.blocks)
    where
      go : (x : Bool)
          → (cond {A = Range} x (record { from = 0; past = 0 }) (record { from = max (block.past - s) own.from; past = min (block.past + q) own.past })).past
          ≤ own.past
      go true = omega arith
      go false = omega arith

  pub range_small : (n b k : ℕ) → k < loops_in c → (range_of n a c b k).past - (range_of n a c b k).from ≤ 65791
  range_small n b k l =
      omega (
        arith,
        last_fits k l,
        part-past (part_in n) (record { from = first_at c k; past = suc (last_at c k) })
            (block_in a b) b (column a.shifts k) (column a.peels k),
      )

  -- THE RANGES ARE THE PLAN'S
  abbrev pub range_in : ℕ → ℕ → ℕ → Range
  range_in zero = fused_range (table_in c) (fusion_in a)
  range_in (suc n) = peeled_range (table_in c) (fusion_in a)

  pub range-in : (n b k : ℕ) → k < loops_in c → range_of n a c b k ≡ range_in n b k
  range-in n b k l = go n (first-held h.held k (omega (arith, loops-are))) (last-held h.held k (omega (arith, loops-are)))
    where
      go : (n : ℕ) → first (table_in c) k ≡ first_at c k → last (table_in c) k ≡ last_at c k → range_of n a c b k ≡ range_in n b k
      go zero e f = sym (rw (e, f))
      go (suc n) e f = sym (rw (e, f))

  -- and so is how long its lists are
  pub lengths-in : (n b : ℕ) → indices_in (loops_in c) (range_of n a c b) ≡ length (work (table_in c) (fusion_in a) n b)
  lengths-in n b =
      total-same (loops_in c) _ _ (λ k l. ap (λ (r : Range). r.past - r.from) (range-in n b k l))
      ∙ ap (λ (m : ℕ). indices_in m (range_in n b)) loops-are ∙ sym (long n)
    where
      long : (n : ℕ) → length (work (table_in c) (fusion_in a) n b) ≡ indices_in (count (table_in c)) (range_in n b)
      long zero = by-sums-length (count (table_in c)) (range_in 0 b) (column a.shifts)
      long (suc n) = by-loops-length (count (table_in c)) (range_in 1 b)

  pub list-short : (n b : ℕ) → length (work (table_in c) (fusion_in a) n b) ≤ 1052656
  list-short n b = omega (arith, lengths-in n b, go (loops_in c) (omega arith), few-loops)
    where
      go : (m : ℕ) → m ≤ loops_in c → indices_in m (range_of n a c b) ≤ m * 65791
      go zero l = omega arith
      go (suc m) l = omega (arith, go m (omega arith), range_small n b m l)

  -- each of its iterations is one of the table, and so of small numbers
  pub listed_small : (n b i : ℕ) → b < a.blocks → i < length (work (table_in c) (fusion_in a) n b)
      → ((get_or (work (table_in c) (fusion_in a) n b) i (iteration 0 0)).number < 16)
      × ((get_or (work (table_in c) (fusion_in a) n b) i (iteration 0 0)).index ≤ 65790)
  listed_small n b i l m = small _ (inside n (nth-mem (work (table_in c) (fusion_in a) n b) (iteration 0 0) i m))
    where
      inside : (n : ℕ) {y : Iteration} → Mem y (work (table_in c) (fusion_in a) n b) → Inside (table_in c) y
      inside zero {y} m = ((fused-list (table_in c) (fusion_in a) b y l).0 m).0
      inside (suc n) {y} m = ((peeled-list (table_in c) (fusion_in a) b y l).0 m).0

      small : (y : Iteration) → Inside (table_in c) y → (y.number < 16) × (y.index ≤ 65790)
      small y (d, f, g) = (omega (arith, few-loops, loops-are), omega (arith, valid-last (table_in c) h.fit.valid y.number d))

-- KEPT RANGES give the list of the plan
module _ (x : PhaseRanges) (l : ℕ) (few : l ≤ 16) where
  pub froms-long : length (take l x.froms) ≡ l
  froms-long = omega (arith, length-take l x.froms, x.sized.froms_sized)

  pub kept-aligned : (length (take l x.froms) ≤ 16) × Aligned (take l x.froms) (take l x.pasts) (take l x.shifts)
  kept-aligned = (
    omega (arith, froms-long),
    record {
      pasts = omega (arith, froms-long, length-take l x.pasts, x.sized.pasts_sized);
      shifts = omega (arith, froms-long, length-take l x.shifts, x.sized.shifts_sized);
    },
  )

  module _ (f : ℕ → Range) (s : ℕ → ℕ) (kept : RangesKept x l f s) where
    pub kept-range : (k : ℕ) → k < l → ranges (take l x.froms) (take l x.pasts) k ≡ f k
    kept-range k i =
        let p = get_or-take l x.froms k 0 i ∙ kept.from k i in
        let q = get_or-take l x.pasts k 0 i ∙ kept.past k i in
        rw (p, q)

    pub kept-shift : (k : ℕ) → k < l → column (take l x.shifts) k ≡ s k
    kept-shift k i = get_or-take l x.shifts k 0 i ∙ kept.shift k i

pub list-in : (a : Axis) (c : Store) (h : Laid a c) (n b : ℕ) (x : PhaseRanges) → RangesKept x (loops_in c) (range_of n a c b) (column a.shifts)
    → list_of x (loops_in c) n ≡ work (table_in c) (fusion_in a) n b
list-in a c h n b x kept = go n (λ k l. rng k l ∙ range-in a c h n b k (omega (arith, loops-are a c h)))
  where
    few : loops_in c ≤ 16
    few = few-loops a c h

    rng : (k : ℕ) → k < count (table_in c) → ranges (take (loops_in c) x.froms) (take (loops_in c) x.pasts) k ≡ range_of n a c b k
    rng k i = kept-range x (loops_in c) few (range_of n a c b) (column a.shifts) kept k (omega (arith, loops-are a c h))

    long : length (take (loops_in c) x.froms) ≡ count (table_in c)
    long = froms-long x (loops_in c) few ∙ loops-are a c h

    go : (m : ℕ) → ((k : ℕ) → k < count (table_in c) → ranges (take (loops_in c) x.froms) (take (loops_in c) x.pasts) k ≡ range_in a c h m b k)
        → list_of x (loops_in c) m ≡ work (table_in c) (fusion_in a) m b
    go zero e =
        fused-columns (table_in c) (fusion_in a) (take (loops_in c) x.froms) (take (loops_in c) x.pasts) (take (loops_in c) x.shifts) b long e
        (λ k i. kept-shift x (loops_in c) few (range_of n a c b) (column a.shifts) kept k (omega (arith, loops-are a c h)))
    go (suc m) e = peeled-columns (table_in c) (fusion_in a) (take (loops_in c) x.froms) (take (loops_in c) x.pasts) b long e
