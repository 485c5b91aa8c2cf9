-- What the program prints: what the call gives, and where that is refused the line of the refusal. Laws alone.
use Rattle.std.specs.Prelude.{ℕ, ◌≤◌, ◌≡◌, List, ◌++◌, ltb, length, drop, Result, Ok}
use Rattle.std.proofs.Common.{arith, ◌∙◌, le-ltb}
use Rattle.std.proofs.Math.Path.{ap}
use Rattle.refusals.specs.declared.Refusal.{Refusal}
use Rattle.refusals.specs.Refusals.{met}
use Rattle.refusals.specs.Answers.{accepted, refused}
use Rattle.refusals.proofs.AnswerLaws.{if-accepted, after-accepted}
use Rattle.serial.specs.Serial.{table}
use Rattle.outputs.specs.Given.{fitted, final}
use Rattle.plans.specs.Plans.{Settings, fitting, planned}
use Rattle.listing.specs.Listing.{refusal_line}
use Rattle.printing.specs.Printing.{listing_of, listing_given, text_of, text, Prints}

module _ (s : List ℕ) (w : Settings) where
  pub text-given : (room : ℕ) (bs : List ℕ) → listing_given s w room ≡ accepted bs → text s w ≡ bs
  unfolding listing_given fitted text text_of
  text-given room bs e =
      let (q, f, g) = after-accepted (planned s w) _ bs e in
      let (z, h) = if-accepted (met 13 0) (ltb room (length (listing_of q))) (accepted (listing_of q)) bs g in
      let is : listing_of q ≡ bs = cc in
      ap text_of f ∙ is

  pub text-refused : (r : Refusal) → planned s w ≡ refused r → text s w ≡ refusal_line r.ground r.place
  unfolding text text_of
  text-refused r e = rw e

  -- a table that is refused decides, whatever the settings are
  pub text-decided : (r : Refusal) → table s ≡ refused r → text s w ≡ refusal_line r.ground r.place
  unfolding planned fitting
  text-decided r e = text-refused r (rw e)

-- the program lends room for the longest, so it is never refused with 13 and prints the whole text
pub prints-all : (text out left : List ℕ) (o : Result ℕ Refusal) → Prints text out left o → 50000 ≤ length out
    → (o ≡ Ok (length text)) × (left ≡ text ++ drop (length text) out)
unfolding fitted final
prints-all text out left o p l =
    let e = le-ltb (length out) (length text) (omega (arith, p.few)) in
    (rw e at p.gives.tells, rw e at p.gives.leaves)
