-- Laws of the entries: no block is empty; the ranges that are told have the iterations of the lists, and no others.
use Rattle.std.specs.Prelude.{ℕ, zero, suc, ◌≤◌, ◌<◌, ◌≡◌, ◌↔◌, List}
use Rattle.std.proofs.Common.{arith, lt-ltb, le-ltb}
use Rattle.std.proofs.Math.Decide.{dec_lt}
use mathlib.Core.List.{Memᴰ as Mem}
use Rattle.refusals.specs.Answers.{accepted}
use Rattle.model.specs.declared.Iteration.{Iteration}
use Rattle.model.specs.Table.{count}
use Rattle.blocks.specs.declared.Range.{Range}
use Rattle.lists.specs.Fusion.{work}
use Rattle.lists.proofs.Order.{Within, by-sums-mem, by-loops-mem}
use Rattle.plans.specs.Plans.{Settings, Planned, planned}
use Rattle.plans.proofs.Accepted.{planned-accepts}
use Rattle.entries.specs.Entries.{loop_range, empty_as_zero}

-- a block of an accepted plan has an index, so the one before the next block's first is its last
pub block-some : (s : List ℕ) (w : Settings) (q : Planned) → planned s w ≡ accepted q
    → (b : ℕ) → b < q.plan.processors → q.plan.edge b < q.plan.edge (suc b)
block-some s w q e = (planned-accepts s w q e).fit.rising

-- a range as it is told has the same indices
pub same-indices : (r : Range) (i : ℕ) → (((empty_as_zero r).from ≤ i) × (i < (empty_as_zero r).past)) ↔ ((r.from ≤ i) × (i < r.past))
same-indices r i = go (dec_lt r.from r.past)
  where
    go : Dec (r.from < r.past) → (((empty_as_zero r).from ≤ i) × (i < (empty_as_zero r).past)) ↔ ((r.from ≤ i) × (i < r.past))
    go (yes l) = rw (lt-ltb r.from r.past l) (λ x. x, λ x. x)
    go (no n) = rw (le-ltb r.from r.past (omega arith)) (λ (a, b). absurd (omega arith), λ (a, b). absurd (omega arith))

-- what is told of the range of an iteration's loop
abbrev shown : ℕ → ℕ → Planned → Iteration → Range
shown phase b q x = empty_as_zero (loop_range phase b q x.number)

-- so an iteration is in processor b's list in a phase if and only if it lies there
pub in-range : (phase b : ℕ) (q : Planned) (x : Iteration)
    → Mem x (work q.table q.plan phase b)
    ↔ ((x.number < count q.table) × ((shown phase b q x).from ≤ x.index) × (x.index < (shown phase b q x).past))
in-range phase b q x = (λ m. to ((listed phase).0 m), λ (l, i, j). (listed phase).1 (from l (i, j)))
  where
    listed : (phase : ℕ) → Mem x (work q.table q.plan phase b) ↔ Within (count q.table) (loop_range phase b q) x
    listed zero = by-sums-mem (count q.table) (loop_range 0 b q) q.plan.shift x
    listed (suc n) = by-loops-mem (count q.table) (loop_range 1 b q) x

    to : Within (count q.table) (loop_range phase b q) x
        → (x.number < count q.table) × ((shown phase b q x).from ≤ x.index) × (x.index < (shown phase b q x).past)
    to w = let (i, j) = (same-indices (loop_range phase b q x.number) x.index).1 w.inside in (w.loop, i, j)

    from : x.number < count q.table → ((shown phase b q x).from ≤ x.index) × (x.index < (shown phase b q x).past)
        → Within (count q.table) (loop_range phase b q) x
    from l i = record { loop = l; inside = (same-indices (loop_range phase b q x.number) x.index).0 i }
