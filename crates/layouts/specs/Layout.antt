-- A plan laid out: for each processor where its phases end, and its lists.
use Rattle.std.specs.Prelude.{ℕ, zero, suc, ◌≤◌, ◌<◌, ◌≡◌, List, [], length, get_or, set, replicate}
use Rattle.std.proofs.lemmas.List.{length-replicate}
use mathlib.Core.List.{Memᴰ as Mem}
use Rattle.model.specs.declared.Iteration.{Iteration}
use Rattle.model.specs.Table.{Inside}
use Rattle.records.specs.declared.storage.Store.{Store}
use Rattle.reader.specs.Store.{loops_in, table_in}
use Rattle.blocks.specs.declared.Axis.{Axis}
use Rattle.blocks.specs.Sums.{column}
use Rattle.lists.specs.Fusion.{fusion_in, phases, work}
use Rattle.lists.proofs.FusionLaws.{fused-list, peeled-list}
use Rattle.turns.specs.Turn.{Work, before}
use Rattle.plans.specs.Code.{Laid}
use Rattle.ranges.specs.declared.phase_ranges.PhaseRanges.{PhaseRanges}
use Rattle.ranges.specs.Code.{range_of, list_of, RangesKept}
use Rattle.ranges.specs.Listed.{list-in}
use Rattle.layouts.specs.declared.Lists.{Lists}

-- the work of the plan in an axis, of the table in a store
abbrev pub work_in : Axis → Store → Work Iteration
work_in a c = record { processors = a.blocks; phases = phases (table_in c) (fusion_in a); list = work (table_in c) (fusion_in a) }

-- the ranges of phase n
abbrev pub ranges_of : Lists → ℕ → PhaseRanges
ranges_of x zero = x.fused
ranges_of x (suc n) = x.peeled

-- where no lists are
abbrev pub no_ranges : PhaseRanges
no_ranges = record {
  froms = replicate 16 0;
  pasts = replicate 16 0;
  shifts = replicate 16 0;
  sized = record { froms_sized = length-replicate {A = ℕ} 16 0; pasts_sized = length-replicate {A = ℕ} 16 0; shifts_sized = length-replicate {A = ℕ} 16 0 };
}

abbrev pub no_lists : Lists
no_lists = record { fused = no_ranges; peeled = no_ranges }

-- the rows with v where phase n of processor b ends
abbrev pub with_end : ℕ → ℕ → ℕ → List (List ℕ) → List (List ℕ)
with_end n b v xs = set xs n (set (get_or xs n []) b v)

module _ (a : Axis) (c : Store) where
  -- processor b's lists are kept
  pub record Stands (x : Lists) (b : ℕ) : Type 0 where
    pub fused : RangesKept x.fused (loops_in c) (range_of 0 a c b) (column a.shifts)
    pub peeled : RangesKept x.peeled (loops_in c) (range_of 1 a c b) (column a.shifts)

  -- so are those of the first n processors, each in its own place
  pub record Standing (old xs : List Lists) (n : ℕ) : Type 0 where
    pub long : length xs ≡ length old
    pub each : (b : ℕ) → b < n → Stands (get_or xs b no_lists) b

  -- the rows with where processor b's phases end
  abbrev pub with_ends : ℕ → List (List ℕ) → List (List ℕ)
  with_ends b xs = with_end 1 b (before (work_in a c) 2 b) (with_end 0 b (before (work_in a c) 1 b) xs)

  module _ (h : Laid a c) where
    -- so the list of each phase is the plan's
    pub stands-list : (x : Lists) (b n : ℕ) → Stands x b → list_of (ranges_of x n) (loops_in c) n ≡ work (table_in c) (fusion_in a) n b
    stands-list x b zero s = list-in a c h 0 b x.fused s.fused
    stands-list x b (suc n) s = list-in a c h (suc n) b x.peeled s.peeled

    -- what stands in the lists are iterations of the table
    pub work-inside : (n b : ℕ) (x : Iteration) → b < a.blocks → Mem x (work (table_in c) (fusion_in a) n b) → Inside (table_in c) x
    work-inside zero b x l m = ((fused-list (table_in c) (fusion_in a) b x l).0 m).0
    work-inside (suc n) b x l m = ((peeled-list (table_in c) (fusion_in a) b x l).0 m).0
