-- Texts written into lent bytes: one after the other, where there is room and where there is none. Laws alone.
use Rattle.std.specs.Prelude.{◌≡◌, refl, List, [], ◌∷◌, ◌++◌, ℕ, suc, ◌+◌, ◌≤◌, length, take, drop, set}
use Rattle.std.proofs.Common.{ap, ◌∙◌, add-zero, arith, length-append, length-set}
use Rattle.std.proofs.lemmas.List.Edits.{sets, sets-eq}
use Rattle.text.specs.Lent.{written, Put, Whole}

-- one text and then another
pub written-append : (out : List ℕ) (at : ℕ) (a b : List ℕ) → written out at (a ++ b) ≡ written (written out at a) (at + length a) b
unfolding written
written-append out at [] b = ap (λ (n : ℕ). written out n b) (rw add-zero)
written-append out at (x ∷ a) b =
    let e : suc at + length a ≡ at + suc (length a) = omega arith in
    written-append (set out at x) (suc at) a b ∙ ap (λ (n : ℕ). written (written (set out at x) (suc at) a) n b) e

-- the length stays
pub length-written : (out : List ℕ) (at : ℕ) (text : List ℕ) → length (written out at text) ≡ length out
unfolding written
length-written out at [] = refl
length-written out at (b ∷ text) = length-written (set out at b) (suc at) text ∙ length-set out at b

-- where there is room, the text stands there, and all else is as found
stores : (out : List ℕ) (at : ℕ) (text : List ℕ) → written out at text ≡ sets out at text
unfolding written
stores out at [] = refl
stores out at (b ∷ text) = stores (set out at b) (suc at) text

pub written-room : (out : List ℕ) (at : ℕ) (text : List ℕ) → at + length text ≤ length out
    → written out at text ≡ take at out ++ text ++ drop (at + length text) out
written-room out at text h = stores out at text ∙ sets-eq text out at h

pub written-front : (out text : List ℕ) → length text ≤ length out → written out 0 text ≡ text ++ drop (length text) out
written-front out text h = let e : 0 + length text ≡ length text = omega arith in rw e at (written-room out 0 text (omega arith))

-- no byte, no change
pub written-nowhere : (at : ℕ) (text : List ℕ) → written [] at text ≡ []
unfolding written
written-nowhere at [] = refl
written-nowhere at (b ∷ text) = written-nowhere (suc at) text

-- a byte; a text of none; one text after another
pub put_one : (out : List ℕ) (at b : ℕ) (left : List ℕ) (past : ℕ) → (left ≡ set out at b) × (past ≡ at + 1) → Put out at (b ∷ []) 1 left past
unfolding written
put_one out at b left past h = record { bytes = h.0; place = h.1; few = omega arith }

pub put-none : (out : List ℕ) (at : ℕ) → Put out at [] 0 out at
unfolding written
put-none out at = record { bytes = refl; place = rw add-zero; few = omega arith }

pub put_then : {out mid left : List ℕ} {at between past : ℕ} {a b : List ℕ} {m n : ℕ} → Put out at a m mid between → Put mid between b n left past
    → Put out at (a ++ b) (m + n) left past
put_then {out} {mid} {left} {at} {between} {past} {a} {b} f g = record {
  bytes = g.bytes ∙ ap (λ (n : ℕ). written mid n b) f.place ∙ ap (λ (o : List ℕ). written o (at + length a) b) f.bytes ∙ rw written-append;
  place = rw length-append (omega (arith, f.place, g.place));
  few = rw length-append (omega (arith, f.few, g.few));
}

pub put-most : {out left : List ℕ} {at past : ℕ} {text : List ℕ} {m : ℕ} (n : ℕ) → m ≤ n → Put out at text m left past → Put out at text n left past
put-most n l f = record { bytes = f.bytes; place = f.place; few = omega (arith, f.few) }

-- the bytes lent stay as many
pub put-length : {out left : List ℕ} {at past : ℕ} {text : List ℕ} {most : ℕ} → Put out at text most left past → length left ≡ length out
put-length {out} {at = at} {text = text} p = ap length p.bytes ∙ length-written out at text

-- from the first byte on
pub put_whole : {out left : List ℕ} {past : ℕ} {text : List ℕ} {most : ℕ} → Put out 0 text most left past → Whole out text most left past
put_whole p = record { bytes = p.bytes; size = omega (arith, p.place); few = omega (arith, p.place, p.few) }
