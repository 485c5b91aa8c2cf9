-- Where the phases of each processor end, and the walk over all of them.
use Prim.Native.Nat.{ℕ, suc, ◌+◌, ◌≤◌, ◌<◌}
use native.Mathlib.Omega.{arith}
use native.Mathlib.Decide.{ℕ_discrete}
use mathlib.Core.Path.{◌≡◌, ◌∙◌}
use mathlib.Core.List.{List, []}
use lib.ListN.{length, get_or, set, length-set}
use lib.Seq.{get_or-set_same, get_or-set_other}
use Rattle.records.specs.declared.storage.Store.{Store}
use Rattle.reader.specs.Store.{table_in}
use Rattle.blocks.specs.declared.Axis.{Axis}
use Rattle.blocks.specs.Sums.{column}
use Rattle.lists.specs.Fusion.{fusion_in, work}
use Rattle.turns.specs.Turn.{before}
use Rattle.barriers.specs.Code.{Ended, EndsFit, Rows}
use Rattle.plans.specs.Code.{Laid}
use Rattle.ranges.specs.Listed.{few-blocks, list-short}
use Rattle.layouts.specs.Layout.{work_in, no_lists, Stands, Standing, with_end, with_ends}
use Rattle.layouts.specs.declared.Lists.{Lists}
use Rattle.layouts.specs.Ends.{ends-rows, ends-here, ends-other, ends-small}

-- ONE PROCESSOR
pub ends-put : (a : Axis) (c : Store) (b : ℕ) (xs : List (List ℕ)) (own x y s : ℕ) → own ≡ b → x ≡ length (work (table_in c) (fusion_in a) 0 b)
    → y ≡ length (work (table_in c) (fusion_in a) 1 b) → s ≡ x + y → with_end 1 own s (with_end 0 own x xs) ≡ with_ends a c b xs
ends-put a c b xs own x y s e f g q =
    let one : x ≡ before (work_in a c) 1 b = omega arith in
    let two : s ≡ before (work_in a c) 2 b = omega arith in
    rw (e, one, two)

-- ALL: it is written where the phases of the first b processors end
pub record Ending (a : Axis) (c : Store) (ends : List (List ℕ)) (b : ℕ) : Type 0 where
  pub below : b ≤ a.blocks
  pub rows : Rows ends
  pub small : EndsFit ends
  pub are : (n d : ℕ) → n < 2 → d < b → column (get_or ends n []) d ≡ before (work_in a c) (suc n) d

module _ (a : Axis) (c : Store) (h : Laid a c) where
  pub ending-none : (ends : List (List ℕ)) → Rows ends → EndsFit ends → Ending a c ends 0
  ending-none ends e s = record { below = omega arith; rows = e; small = s; are = λ n d l i. absurd (omega arith) }

  pub ending-next : (ends fs : List (List ℕ)) (b : ℕ) → Ending a c ends b → b < a.blocks → fs ≡ with_ends a c b ends → Ending a c fs (b + 1)
  ending-next ends fs b y more e = rw e (record {
    below = omega arith;
    rows = ends-rows a c b ends y.rows;
    small = ends-small a c b ends y.rows few y.small (list-short a c h 0 b) (list-short a c h 1 b);
    are = λ n d l i. ended n d l i (ℕ_discrete d b);
  })
    where
      few : b < 64
      few = omega (arith, few-blocks a c h)

      ended : (n d : ℕ) → n < 2 → d < b + 1 → Dec (d ≡ b) → column (get_or (with_ends a c b ends) n []) d ≡ before (work_in a c) (suc n) d
      ended n d l i (yes q) = rw q (ends-here a c b ends y.rows few n l)
      ended n d l i (no q) = ends-other a c b ends y.rows n d (λ z. q) ∙ y.are n d l (omega arith)

  pub ending-all : (ends : List (List ℕ)) (b : ℕ) → Ending a c ends b → a.blocks ≤ b → Ended (work_in a c) ends
  ending-all ends b y l = record {
    small = y.small;
    is = λ n d i j. y.are n d i (omega arith);
    some-phase = omega arith;
    few = omega arith;
  }

  -- and the lists of the first b are kept
  pub standing-next : (old xs ys : List Lists) (b : ℕ) (x : Lists) → 64 ≤ length old → Standing a c old xs b → b < a.blocks → ys ≡ set xs b x → Stands a c x b
      → Standing a c old ys (b + 1)
  standing-next old xs ys b x many y more e s = rw e (record { long = simp length-set y.long; each = λ d i. kept d i (ℕ_discrete d b) })
    where
      room : b < length xs
      room = omega (arith, many, y.long, few-blocks a c h)

      kept : (d : ℕ) → d < b + 1 → Dec (d ≡ b) → Stands a c (get_or (set xs b x) d no_lists) d
      kept d i (yes q) = rw (q, get_or-set_same xs b x no_lists room) s
      kept d i (no q) = rw (get_or-set_other xs b d x no_lists q) (y.each d (omega arith))
