-- The numbers that each entry gives, four bytes each, or the refusal: 1 to 9, then 19, 20, 10, 17 and 11 where a plan is asked for, then 13.
use Rattle.std.specs.Prelude.{ℕ, zero, suc, ◌-◌, cond, List, [], ◌∷◌, ltb}
use Rattle.order.specs.Sequences.{joined}
use Rattle.model.specs.Table.{Table, count}
use Rattle.model.specs.declared.Iteration.{Iteration}
use Rattle.refusals.specs.Answers.{after}
use Rattle.serial.specs.Serial.{table}
use Rattle.blocks.specs.declared.Range.{Range}
use Rattle.lists.specs.Fusion.{Fusion, fused_range, peeled_range, work}
use Rattle.numbers.specs.Asked.{numbers}
use Rattle.outputs.specs.Given.{Given}
use Rattle.plans.specs.Plans.{Settings, Planned, shift_of, peel_of, threshold_of, planned, planned_for}
use Rattle.sweeps.specs.Sweeps.{before}
use Rattle.sweeps.specs.Sweeps as Sweeps

-- shift and peel of each loop
abbrev pub amounts_of : Table → List ℕ
amounts_of t = joined (count t) (λ k. shift_of t k ∷ peel_of t k ∷ [])

-- first and last index of each block, none of which is empty (`block-some`)
abbrev pub blocks_of : Fusion → List ℕ
blocks_of c = joined c.processors (λ b. c.edge b ∷ (c.edge (suc b) - 1) ∷ [])

-- loop and iteration
abbrev pub pairs_of : List Iteration → List ℕ
pairs_of [] = []
pairs_of (x ∷ xs) = x.number ∷ x.index ∷ pairs_of xs

-- of each in processor b's list in a phase
abbrev pub listed_of : ℕ → ℕ → Planned → List ℕ
listed_of phase b q = pairs_of (work q.table q.plan phase b)

-- the range of each loop that processor b runs in a phase: these iterations and no others are in its list (`in-range`)
abbrev pub loop_range : ℕ → ℕ → Planned → ℕ → Range
loop_range zero b q = fused_range q.table q.plan b
loop_range (suc n) b q = peeled_range q.table q.plan b

-- a range is told by its first index and the one past its last, an empty one by 0 and 0
abbrev pub empty_as_zero : Range → Range
empty_as_zero r = cond (ltb r.from r.past) r (record { from = 0; past = 0 })

abbrev pub ranges_of : ℕ → ℕ → Planned → List ℕ
ranges_of phase b q = joined (count q.table) (λ k. (empty_as_zero (loop_range phase b q k)).from ∷ (empty_as_zero (loop_range phase b q k)).past ∷ [])

-- each entry, with so much room
unfoldable pub amounts : List ℕ → ℕ → Given
amounts s room = after (table s) (λ t. numbers room (amounts_of t))

unfoldable pub thresholds : List ℕ → ℕ → Given
thresholds s room = after (table s) (λ t. numbers room (threshold_of t ∷ []))

unfoldable pub sweeps_given : List ℕ → ℕ → Given
sweeps_given s room = after (table s) (λ t. numbers room (before t ∷ Sweeps.after t ∷ []))

unfoldable pub blocks_given : List ℕ → Settings → ℕ → Given
blocks_given s w room = after (planned s w) (λ q. numbers room (blocks_of q.plan))

-- the lists of processor b: phase 0 has the fused ones, phase 1 the peeled ones
unfoldable pub list_given : ℕ → List ℕ → Settings → ℕ → ℕ → Given
list_given phase s w b room = after (planned_for s w b) (λ q. numbers room (listed_of phase b q))

abbrev pub fused_given : List ℕ → Settings → ℕ → ℕ → Given
fused_given = list_given 0

abbrev pub peeled_given : List ℕ → Settings → ℕ → ℕ → Given
peeled_given = list_given 1

-- and its ranges
unfoldable pub ranges_given : ℕ → List ℕ → Settings → ℕ → ℕ → Given
ranges_given phase s w b room = after (planned_for s w b) (λ q. numbers room (ranges_of phase b q))

abbrev pub fused_ranges_given : List ℕ → Settings → ℕ → ℕ → Given
fused_ranges_given = ranges_given 0

abbrev pub peeled_ranges_given : List ℕ → Settings → ℕ → ℕ → Given
peeled_ranges_given = ranges_given 1
