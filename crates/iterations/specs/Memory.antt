-- The memory of a table: its length, and ground 12.
use Rattle.std.specs.Prelude.{ℕ, not, eqb}
use Rattle.model.specs.Table.{Table}
use Rattle.refusals.specs.Refusals.{met}
use Rattle.refusals.specs.Answers.{AnswerOf, accepted, refused, ◌if◌else◌, after}
use Rattle.grounds.specs.Statements.{sum}

-- how many elements the arrays have in all
abbrev pub element_total : Table → ℕ
element_total t = sum t.lengths

-- 12: the memory's length n isn't the element total of what was asked for. It is asked of what is accepted alone
module _ {T : Type 0} (size : T → ℕ) where
  unfoldable pub remembered : ℕ → AnswerOf T → AnswerOf T
  remembered n a = after a (λ t. refused (met 12 0) if not (eqb n (size t)) else accepted t)
