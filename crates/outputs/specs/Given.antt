-- What a call gives in lent bytes: a refusal, which leaves them as found, or bytes, past which all stays.
use Rattle.std.specs.Prelude.{ℕ, List, ◌++◌, ltb, length, drop}
use Rattle.refusals.specs.Refusals.{met}
use Rattle.refusals.specs.Answers.{AnswerOf, accepted, refused, ◌if◌else◌}

-- the bytes written, or a refusal
abbrev pub Given : Type 0
Given = AnswerOf (List ℕ)

-- 13 where the bytes don't fit the lent ones
unfoldable pub fitted : ℕ → List ℕ → Given
fitted room bs = refused (met 13 0) if ltb room (length bs) else accepted bs

-- what the lent bytes then hold: as found, or the bytes and what stood past them
unfoldable pub final : Given → List ℕ → List ℕ
final (refused r) out = out
final (accepted bs) out = bs ++ drop (length bs) out

-- how many bytes are written
abbrev pub count_of : Given → ℕ
count_of (refused r) = 0
count_of (accepted bs) = length bs
