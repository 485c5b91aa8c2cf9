-- What the call gives where a plan is refused, with 19, 20, 10, 17 or 11 as with a table's own ground, and where it is accepted. Laws alone.
use Rattle.std.specs.Prelude.{ℕ, ◌≡◌, List}
use Rattle.refusals.specs.declared.Refusal.{Refusal}
use Rattle.refusals.specs.Answers.{accepted, refused}
use Rattle.outputs.specs.Given.{fitted}
use Rattle.plans.specs.Plans.{Settings, Planned, planned}
use Rattle.printing.specs.Printing.{listing_of, listing_given}

module _ (s : List ℕ) (w : Settings) (room : ℕ) where
  pub given-refused : (r : Refusal) → planned s w ≡ refused r → listing_given s w room ≡ refused r
  unfolding listing_given
  given-refused r e = rw e

  pub given-accepted : (q : Planned) → planned s w ≡ accepted q → listing_given s w room ≡ fitted room (listing_of q)
  unfolding listing_given
  given-accepted q e = rw e
