-- Where a plan is refused the lent bytes stay as found.
use Rattle.std.specs.Prelude.{ℕ, ◌≡◌, List}
use Rattle.refusals.specs.declared.Refusal.{Refusal}
use Rattle.refusals.specs.Answers.{refused}
use Rattle.outputs.specs.Given.{final}
use Rattle.plans.specs.Plans.{Settings, planned}
use Rattle.printing.specs.Printing.{listing_given}
use Rattle.printing.proofs.Given.{given-refused}

module _ (s : List ℕ) (w : Settings) (room : ℕ) where
  pub given-kept : (r : Refusal) → planned s w ≡ refused r → (out : List ℕ) → final (listing_given s w room) out ≡ out
  unfolding final
  given-kept r e out = rw (given-refused s w room r e)
