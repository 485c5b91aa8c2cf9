-- Room for the longest listing is always enough, and 13 is then never given. Laws alone.
use Rattle.std.specs.Prelude.{ℕ, ◌≤◌, ◌≡◌, List, length}
use Rattle.std.proofs.Common.{arith, ◌∙◌, le-ltb}
use Rattle.refusals.specs.Answers.{accepted}
use Rattle.outputs.specs.Given.{fitted}
use Rattle.plans.specs.Plans.{Settings, Planned, planned}
use Rattle.printing.specs.Printing.{listing_of, listing_given}
use Rattle.printing.proofs.Given.{given-accepted}
use Rattle.printing.proofs.Longest.{listing-length}

-- a plan that is accepted has its listing
pub listing-given : (s : List ℕ) (w : Settings) (q : Planned) → planned s w ≡ accepted q
    → (room : ℕ) → 50000 ≤ room → listing_given s w room ≡ accepted (listing_of q)
unfolding fitted
listing-given s w q e room l =
    given-accepted s w room q e ∙ rw (le-ltb room (length (listing_of q)) (omega (arith, listing-length s w q e)))
