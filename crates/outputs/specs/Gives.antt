-- What code that gives bytes tells and leaves. Assumes nothing.
use Rattle.std.specs.Prelude.{ℕ, ◌≡◌, List, length, Result}
use Rattle.refusals.specs.declared.Refusal.{Refusal}
use Rattle.refusals.specs.Answers.{result_of}
use Rattle.outputs.specs.Given.{Given, final}

-- g is given: what is told of it, the refusal or how many bytes are written, and what is left of the lent bytes
pub record Gives (g : Given) (out left : List ℕ) (o : Result ℕ Refusal) : Type 0 where
  pub tells : o ≡ result_of length g
  pub leaves : left ≡ final g out
