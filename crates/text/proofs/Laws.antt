-- A word byte by byte, a number digit by digit, a line field by field. Assumes nothing.
use mathlib.Core.Path.{◌≡◌, refl, sym, ap, subst, ◌∙◌}
use mathlib.Core.List.{List, [], ◌∷◌, ◌++◌, append_assoc}
use Prim.Native.Nat.{ℕ, ◌+◌, ◌*◌, ◌/◌, ◌^◌, ◌≤◌, ◌<◌}
use native.Mathlib.Numerals.{add-one}
use native.Mathlib.Omega.{arith}
use lib.ListN.{length, get_or, take, drop}
use lib.Seq.{take-suc, take_all, drop-cons}
use Rattle.std.proofs.lemmas.List.{drop_all}
use Rattle.text.specs.declared.Writer.{Writer}
use Rattle.text.specs.Puts.{Puts, puts-none, puts_then, puts-most}
use Rattle.text.specs.Decimal.{decimal, last_digit}
use Rattle.text.proofs.Digits.{decimal-small, decimal-more, length-decimal}
use Rattle.text.specs.Line.{field, fields, line}

-- A WORD
module _ (old : Writer) (w : List ℕ) where
  -- after i bytes of a word
  pub record WordInv (i : ℕ) (new : Writer) : Type 0 where
    pub within : i ≤ length w
    pub puts : Puts old (take i w) i new

  pub word-start : WordInv 0 old
  word-start = record { within = omega arith; puts = puts-none old }

  pub word_next : {i : ℕ} {mid new : Writer} → WordInv i mid → i < length w → Puts mid (get_or w i 0 ∷ []) 1 new → WordInv (i + 1) new
  word_next {i} inv l p = record { within = omega arith; puts = rw (add-one i, take-suc w i 0 l) (simp add-one at (puts_then inv.puts p)) }

  pub word_end : {i : ℕ} {new : Writer} → WordInv i new → length w ≤ i → Puts old w (length w) new
  word_end {i} {new} inv l =
      let e : i ≡ length w = omega (arith, inv.within) in
      subst (λ (n : ℕ). Puts old w n new) e (subst (λ (t : List ℕ). Puts old t i new) (take_all i w l) inv.puts)

-- A NUMBER
module _ {old : Writer} (x : ℕ) where
  pub digit-alone : {new : Writer} → x < 10 → Puts old (last_digit x ∷ []) 1 new → Puts old (decimal x) 20 new
  digit-alone l p = rw (decimal-small x l) (puts-most 20 (omega arith) p)

  module _ {mid : Writer} (fits : x < 2 ^ 64) (front : Puts old (decimal (x / 10)) 20 mid) where
    -- a tenth of the number has at most 19 digits
    pub front-few : mid.at ≤ old.at + 19
    front-few = omega (arith, front.put.place, length-decimal 18 (x / 10) (omega arith))

    pub digit-after : {new : Writer} → 10 ≤ x → Puts mid (last_digit x ∷ []) 1 new → Puts old (decimal x) 20 new
    digit-after {new} l p =
        let q : Puts old (decimal x) 21 new = rw (decimal-more x l) (puts_then front p) in
        record { same_reference = q.same_reference; put = record { bytes = q.put.bytes; place = q.put.place; few = length-decimal 19 x (omega arith) } }

-- A LINE, field by field
pub field_put : {old mid new : Writer} (x : ℕ) → Puts old (32 ∷ []) 1 mid → Puts mid (decimal x) 20 new → Puts old (field x) 21 new
field_put x p q = puts_then p q

module _ (old : Writer) (w xs : List ℕ) where
  -- after a line's word and i of its fields, of which `text` is what was put
  pub record LineInv (i : ℕ) (new : Writer) : Type 0 where
    pub text : List ℕ
    pub puts : Puts old text (7 + 21 * i) new
    pub rest : text ++ fields (drop i xs) ≡ line w xs
    pub within : i ≤ length xs

  pub line-start : {new : Writer} → length w ≤ 7 → Puts old w (length w) new → LineInv 0 new
  unfolding line
  line-start short p = record { text = w; puts = puts-most 7 short p; rest = refl; within = omega arith }

  pub line-next : {i : ℕ} {mid new : Writer} → LineInv i mid → i < length xs → Puts mid (field (get_or xs i 0)) 21 new → LineInv (i + 1) new
  line-next {i} inv l p = record {
    text = inv.text ++ field (get_or xs i 0);
    puts = puts-most (7 + 21 * (i + 1)) (omega arith) (puts_then inv.puts p);
    rest = rw append_assoc (ap (λ (r : List ℕ). inv.text ++ r) (rw add-one (sym (ap fields (drop-cons xs i 0 l)))) ∙ inv.rest);
    within = omega arith;
  }

  pub line-end : {i : ℕ} {mid new : Writer} → LineInv i mid → length xs ≤ i → length xs ≤ 4 → Puts mid (10 ∷ []) 1 new → Puts old (line w xs) 100 new
  line-end {i} {mid} {new} inv l few p =
      let q = puts_then inv.puts p in
      let e : fields (drop i xs) ≡ 10 ∷ [] = ap fields (drop_all i xs l) in
      subst (λ (t : List ℕ). Puts old t 100 new) (ap (λ (r : List ℕ). inv.text ++ r) (sym e) ∙ inv.rest) (puts-most 100 (omega (arith, inv.within)) q)
