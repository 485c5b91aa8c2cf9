-- The grounds 10 to 13, 15, 17, 19 and 20, each by itself, in docs/TABLE.md's words. (1 to 8 are in grounds, 9 in serial, 14 and joining's own 4 in joins.)
use Rattle.std.specs.Prelude.{ℕ, ◌+◌, ◌*◌, ◌≤◌, ◌<◌, ◌≡◌, ◌⊎◌, ◌≢◌, List, length}
use Rattle.model.specs.declared.Reference.{Reference}
use Rattle.model.specs.Table.{Table, count}
use Rattle.chains.specs.Dependence.{backward, forward}
use Rattle.chains.specs.Graph.{Dependence}
use Rattle.chains.specs.TableGraph.{graph}
use Rattle.chains.specs.Threshold.{threshold}
use Rattle.blocks.specs.Sums.{column}
use Rattle.blocks.specs.Span.{table_span}
use Rattle.blocks.specs.Blocks.{lines, width}
use Rattle.lists.specs.Fusion.{fused_list, peeled_list}
use Rattle.amounts.specs.declared.Amounts.{Amounts}
use Rattle.legality.specs.Written.{number_at}
use Rattle.plans.specs.Plans.{Settings, Planned}

-- a plan by hand is given; of loop k it has this shift and this peel
abbrev pub Given : Settings → Type 0
Given w = w.given ≢ 0

abbrev pub hand_shift : Settings → ℕ → ℕ
hand_shift w k = number_at w.plan (2 * k)

abbrev pub hand_peel : Settings → ℕ → ℕ
hand_peel w k = number_at w.plan (2 * k + 1)

-- 19: not 8 bytes for each loop, or a number above 10,000
abbrev pub NotAPlan : Table → Settings → Type 0
NotAPlan t w = (w.size ≢ 8 * count t) ⊎ ((k : ℕ) × (k < count t) × ((10000 < hand_shift w k) ⊎ (10000 < hand_peel w k)))

-- 20: a dependence from loop j to loop k is not met: the later loop's shift is below the earlier's plus the backward amount, or its peel below the
-- earlier's plus the forward amount
pub record NotMet (t : Table) (w : Settings) (j k : ℕ) : Type 0 where
  pub x : Reference
  pub y : Reference
  pub dependence : Dependence (graph t) x y
  pub from : x.number ≡ j
  pub to : y.number ≡ k
  pub short : (hand_shift w k < hand_shift w j + backward x y) ⊎ (hand_peel w k < hand_peel w j + forward x y)

-- and the pair that it has: the lowest earlier loop, and with it the lowest later one
pub record FirstNotMet (t : Table) (w : Settings) (j k : ℕ) : Type 0 where
  pub here : NotMet t w j k
  pub lowest-earlier : (i m : ℕ) → i < j → NotMet t w i m → ⊥
  pub lowest-later : (m : ℕ) → m < k → NotMet t w j m → ⊥

-- 10: P outside 1 to 64
abbrev pub BadProcessors : Settings → Type 0
BadProcessors w = (w.processors < 1) ⊎ (64 < w.processors)

-- 10, where a processor is named: or its number is not below P
abbrev pub BadNumber : Settings → ℕ → Type 0
BadNumber w b = BadProcessors w ⊎ (w.processors ≤ b)

-- 17: W outside 1 to 64
abbrev pub BadLine : Settings → Type 0
BadLine w = (w.line < 1) ⊎ (64 < w.line)

-- 11: fewer lines than P, or P ≥ 2 and some block, the last one as it is cut, below the threshold of the shifts and peels a
abbrev pub Short : Table → Amounts → Settings → Type 0
Short t a w =
    let T = (table_span t).count in
    let W = w.line in
    let P = w.processors in
    (lines T W < P) ⊎ ((2 ≤ P) × (b : ℕ) × (b < P) × (width T W P b < threshold a.shifts a.peels))

-- 12: its length, n, isn't the table's element total
abbrev pub OtherLength : ℕ → ℕ → Type 0
OtherLength n total = n ≢ total

-- 13: the output doesn't fit the lent bytes
abbrev pub NoRoom : ℕ → List ℕ → Type 0
NoRoom room bs = room < length bs

-- 15, of processor b's count
module _ (q : Planned) (counts : List ℕ) (b : ℕ) where
  abbrev pub fused_of : ℕ → ℕ
  fused_of d = length (fused_list q.table q.plan d)

  abbrev pub peeled_of : ℕ → ℕ
  peeled_of d = length (peeled_list q.table q.plan d)

  -- a count above its lists
  abbrev pub AboveLists : Type 0
  AboveLists = fused_of b + peeled_of b < column counts b

  -- a peeled step before the barrier: some fused list is not used up
  abbrev pub BeforeBarrier : Type 0
  BeforeBarrier = (fused_of b < column counts b) × ((d : ℕ) × (d < q.plan.processors) × (column counts d < fused_of d))

  -- or a count above 0 for a processor not below P
  pub data BadCount : Type 0 where
    above : b < q.plan.processors → AboveLists → BadCount
    early : b < q.plan.processors → BeforeBarrier → BadCount
    beyond : q.plan.processors ≤ b → 0 < column counts b → BadCount

-- 15, of all 64
abbrev pub BadState : Planned → List ℕ → Type 0
BadState q counts = (b : ℕ) × (b < 64) × BadCount q counts b
