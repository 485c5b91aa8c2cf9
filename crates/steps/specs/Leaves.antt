-- What a step leaves: the counts, the memory and the report.
use Rattle.std.specs.Prelude.{ℕ, ◌≡◌, List, Float}
use Rattle.model.specs.declared.Iteration.{Iteration}
use Rattle.turns.specs.Turn.{After}
use Rattle.stepping.specs.declared.Report.{Report}
use Rattle.stepping.specs.Step.{report_of}

pub record Leaves (a : After Iteration (List Float)) (counts : List ℕ) (m : List Float) (r : Report) : Type 0 where
  pub counts-are : counts ≡ a.counts
  pub memory-is : m ≡ a.memory
  pub report-is : r ≡ report_of a.said
