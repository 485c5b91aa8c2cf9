-- A plan by hand: its shifts and peels, or a refusal. 19 where there are not 8 bytes for each loop, or a number is above 10,000; then 20 where a
-- dependence is not met, with the first pair of loops that has one. Nothing else decides about the pairs. Assumes nothing.
use Rattle.std.specs.Prelude.{ℕ, ◌*◌, ◌/◌, ◌%◌, Bool, not, ◌||◌, List, eqb, ltb}
use Rattle.refusals.specs.Refusals.{naming, met}
use Rattle.refusals.specs.Answers.{AnswerOf, accepted, refused, ◌if◌else◌}
use Rattle.model.specs.Table.{Table, count}
use Rattle.chains.specs.TableGraph.{graph}
use Rattle.chains.specs.Unmet.{missed, least_unmet}
use Rattle.blocks.specs.Sums.{some, column}
use Rattle.amounts.specs.declared.Amounts.{Amounts}
use Rattle.legality.specs.Written.{amounts_in}

-- the shift or the peel of loop k is above 10,000; that of some loop is
abbrev pub large_at : Amounts → ℕ → Bool
large_at a k = ltb 10000 (column a.shifts k) || ltb 10000 (column a.peels k)

abbrev pub too_large : Amounts → Bool
too_large a = some 16 (large_at a)

-- shifts and peels for the table t
module _ (t : Table) (a : Amounts) where
  -- the first pair of loops, as 16 times the earlier and the later, with a dependence that they don't meet; 256 where there is none
  abbrev pub first_unmet : ℕ
  first_unmet = least_unmet (graph t) (missed (graph t) a.shifts a.peels)

  -- 19 for a number above 10,000, then 20 with that pair
  unfoldable pub judged : AnswerOf Amounts
  judged = refused (met 19 0) if too_large a else (refused (naming 20 (first_unmet / 16) (first_unmet % 16) 0) if ltb first_unmet 256 else accepted a)

-- a plan of n bytes for the table t: they are the first of bs, and what stands behind them is not looked at
unfoldable pub by_hand : Table → ℕ → List ℕ → AnswerOf Amounts
unfolding judged
by_hand t n bs = refused (met 19 0) if not (eqb n (8 * count t)) else judged t (amounts_in 2 0 (count t) bs)
