-- What is printed is the listing or the program's text.
use Prim.Native.Nat.{ℕ, ◌≤◌, ◌<◌}
use Rattle.std.specs.Prelude.{Result, Ok, Err, IfOk}
use native.Mathlib.Omega.{arith}
use mathlib.Core.Path.{◌≡◌, sym, ap, subst, ◌∙◌}
use mathlib.Core.Bool.{Bool, true, false}
use mathlib.Core.List.{List, []}
use lib.Dec.{ltb}
use lib.ListN.{length, drop, length-append}
use Rattle.refusals.specs.Refusals.{met}
use Rattle.refusals.specs.declared.Refusal.{Refusal}
use Rattle.refusals.specs.Answers.{accepted, refused, ◌if◌else◌, result_of}
use Rattle.records.specs.declared.storage.Store.{Store}
use Rattle.reader.specs.Store.{table_in}
use Rattle.lists.specs.Fusion.{fusion_in}
use Rattle.blocks.specs.declared.Axis.{Axis}
use Rattle.plans.specs.Plans.{Settings, planned}
use Rattle.plans.specs.Code.{planned_in, Made}
use Rattle.sweeps.specs.declared.Sweeps.{Sweeps}
use Rattle.sweeps.specs.Sweeps.{sweeps}
use Rattle.outputs.specs.Given.{Given, fitted, final}
use Rattle.outputs.specs.Gives.{Gives}
use Rattle.outputs.proofs.GivesLaws.{gives-refused, gives-short, gives-written}
use Rattle.text.specs.Lent.{Whole}
use Rattle.text.specs.Written.{written-front}
use Rattle.listing.specs.Listing.{listing, refusal_line}
use Rattle.printing.specs.Printing.{listing_of, listing_given, text_of, text, Prints}
use Rattle.printing.proofs.Given.{given-refused, given-accepted}
use Rattle.printing.proofs.Longest.{listing-length}

-- A TEXT IN LENT BYTES: the first call got no bytes; `size` is the text's length
module _ (text out : List ℕ) {none : List ℕ} {most size : ℕ} (asked : Whole [] text most none size) where
  pub no_room : length out < size → Gives (fitted (length out) text) out out (Err (met 13 0))
  no_room l = gives-short text out (omega (arith, asked.size))

  pub room : {left : List ℕ} {n : ℕ} → Whole out text most left n → size ≤ length out → Gives (fitted (length out) text) out left (Ok n)
  room {left} {n} w l =
      gives-written text out left n (omega (arith, asked.size)) w.size (w.bytes ∙ written-front out text (omega (arith, asked.size)))

-- the lines are those of the plan in the axis
pub lines_are : (a : Axis) (c : Store) (z : Sweeps) → z ≡ sweeps (table_in c)
    → listing (table_in c) (fusion_in a) z.before z.after ≡ listing_of (planned_in a c)
unfolding sweeps
lines_are a c z e = rw e

pub gives_same : {a b out left : List ℕ} {o : Result ℕ Refusal} → a ≡ b → Gives (fitted (length out) a) out left o → Gives (fitted (length out) b) out left o
gives_same {out = out} {left} {o} e g = subst (λ (x : List ℕ). Gives (fitted (length out) x) out left o) e g

-- no more is written than there was room for
written-fits : (text out left : List ℕ) (o : Result ℕ Refusal) → Gives (fitted (length out) text) out left o → IfOk o (λ n. n ≤ length left)
unfolding fitted final
written-fits text out left o g = rw g.tells (go (ltb (length out) (length text)) (ap length g.leaves))
  where
    go : (x : Bool) → length left ≡ length (final (refused (met 13 0) if x else accepted text) out)
        → IfOk (result_of length (refused (met 13 0) if x else accepted text)) (λ n. n ≤ length left)
    go true f = tt
    go false f = omega (arith, length-append text (drop (length text) out))

-- WHAT THE PLAN'S CODE ANSWERED, as the call gives it and as the program prints it
module _ (s : List ℕ) (w : Settings) (out : List ℕ) where
  pub refused-given : (r : Refusal) → planned s w ≡ refused r → Gives (listing_given s w (length out)) out out (Err r)
  refused-given r e = gives-refused (listing_given s w (length out)) out r (given-refused s w (length out) r e)

  pub refused-printed : (r : Refusal) → planned s w ≡ refused r → {left : List ℕ} {o : Result ℕ Refusal}
      → Gives (fitted (length out) (refusal_line r.ground r.place)) out left o → length (refusal_line r.ground r.place) ≤ 100
      → Prints (text s w) out left o
  unfolding text text_of
  refused-printed r e g l = rw e (record { gives = g; few = omega (arith, l); fits = written-fits _ out _ _ g })

  module _ (x : Axis) (c : Store) (m : Made (planned s w) x c) {left : List ℕ} {o : Result ℕ Refusal}
      (g : Gives (fitted (length out) (listing_of (planned_in x c))) out left o) where
    pub made-given : Gives (listing_given s w (length out)) out left o
    made-given =
        let e = given-accepted s w (length out) (planned_in x c) m.is in
        subst (λ (y : Given). Gives y out left o) (sym e) g

    pub made-printed : Prints (text s w) out left o
    unfolding text text_of
    made-printed = rw m.is (record { gives = g; few = listing-length s w (planned_in x c) m.is; fits = written-fits _ out left o g })
