-- What is printed of a table for what settles its lists: its plan's listing, or a refusal. A call gives the refusal and prints nothing; the
-- program `plan` prints the single line of it.
use Rattle.std.specs.Prelude.{ℕ, ◌≤◌, List, length, Result, IfOk}
use Rattle.refusals.specs.declared.Refusal.{Refusal}
use Rattle.refusals.specs.Answers.{AnswerOf, accepted, refused, after}
use Rattle.plans.specs.Plans.{Settings, Planned, planned}
use Rattle.sweeps.specs.Sweeps.{before}
use Rattle.sweeps.specs.Sweeps as Sweeps
use Rattle.listing.specs.Listing.{listing, refusal_line}
use Rattle.outputs.specs.Given.{Given, fitted}
use Rattle.outputs.specs.Gives.{Gives}

-- the listing of an accepted plan
abbrev pub listing_of : Planned → List ℕ
listing_of q = listing q.table q.plan (before q.table) (Sweeps.after q.table)

-- THE PROGRAM prints the listing, or the line of a refusal; the place that 9 carries is its loop
unfoldable pub text_of : AnswerOf Planned → List ℕ
text_of (refused r) = refusal_line r.ground r.place
text_of (accepted q) = listing_of q

-- of a table's bytes
unfoldable pub text : List ℕ → Settings → List ℕ
text s w = text_of (planned s w)

-- THE CALL, with so much room: refused with 1 to 9, 19, 20, 10, 17, 11, then 13; else the listing
unfoldable pub listing_given : List ℕ → Settings → ℕ → Given
listing_given s w room = after (planned s w) (λ q. fitted room (listing_of q))

-- a call that prints a text into `out`, or gives 13 where it doesn't fit, tells o and leaves `left`; no text is long
pub record Prints (text out left : List ℕ) (o : Result ℕ Refusal) : Type 0 where
  pub gives : Gives (fitted (length out) text) out left o
  pub few : length text ≤ 50000
  pub fits : IfOk o (λ n. n ≤ length left)
