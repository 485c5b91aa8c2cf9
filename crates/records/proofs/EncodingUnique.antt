-- The bytes of a record are its encoding: a record has no other.
use Prim.Native.Nat.{ℕ, zero, suc, ◌+◌, ◌*◌, ◌/◌, ◌%◌, ◌≤◌, ◌<◌}
use native.Mathlib.Omega.{arith}
use Rattle.std.proofs.Common.{add-one, subst, ◌∙◌, drop-cons}
use Rattle.std.specs.Prelude.{◌≡◌, length}
use Rattle.std.proofs.Math.Path.{refl, sym, ap}
use mathlib.Core.List.{List, ◌∷◌, ◌++◌, append_assoc}
use Rattle.std.proofs.Math.ListN.{drop}
use Rattle.records.specs.declared.Record.{Record}
use Rattle.records.specs.declared.Record.TheVariants.{Unknown}
use Rattle.records.specs.declared.Summary.{Summary}
use Rattle.records.specs.Bytes.{byte, two, four, offset, kind_of, body_length, record_of, record_at}
use Rattle.records.specs.Clear.{Clear}
use Rattle.records.proofs.Outcome.{Whole}
use Rattle.records.specs.Encoding.{in_two, in_four, in_offset, encode, Bytes}

clear-known : (r : Record) (t : Summary) (ns : List ℕ) → Clear r t ns → r ≡ Unknown → ⊥
clear-known r t ns c e = subst (λ (x : Record). Clear x t ns) e c

-- the numbers of a body, from a place p up to a place n
module _ (s : List ℕ) (bytes : Bytes s) where
  one-back : (p n : ℕ) → n ≡ p + 1 → n ≤ length s → drop p s ≡ byte s p ∷ drop n s
  one-back p n e h = drop-cons s p 0 (omega arith) ∙ ap (λ (m : ℕ). byte s p ∷ drop m s) (sym (e ∙ add-one p))

  two_back : (p n : ℕ) → n ≡ p + 2 → n ≤ length s → drop p s ≡ in_two (two s p) ++ drop n s
  unfolding in_two two
  two_back p n e h =
      let low : (byte s p + 256 * byte s (p + 1)) % 256 ≡ byte s p = omega (arith, bytes p) in
      let high : (byte s p + 256 * byte s (p + 1)) / 256 ≡ byte s (p + 1) = omega (arith, bytes p) in
      rw (low, high) (one-back p (p + 1) refl (omega arith) ∙ ap (λ (l : List ℕ). byte s p ∷ l) (one-back (p + 1) n (omega arith) h))

  two-below : (p : ℕ) → two s p < 65536
  unfolding two
  two-below p = omega (arith, bytes p, bytes (p + 1))

  four-back : (p n : ℕ) → n ≡ p + 4 → n ≤ length s → drop p s ≡ in_four (four s p) ++ drop n s
  unfolding in_four four
  four-back p n e h =
      let low : (two s p + 65536 * two s (p + 2)) % 65536 ≡ two s p = omega (arith, two-below p) in
      let high : (two s p + 65536 * two s (p + 2)) / 65536 ≡ two s (p + 2) = omega (arith, two-below p) in
      rw (low, high)
      (two_back p (p + 2) refl (omega arith)
      ∙ ap (λ (l : List ℕ). in_two (two s p) ++ l) (two_back (p + 2) n (omega arith) h)
      ∙ sym (append_assoc (in_two (two s p)) (in_two (two s (p + 2))) (drop n s)))

  offset-back : (p n : ℕ) → n ≡ p + 2 → n ≤ length s → drop p s ≡ in_offset (offset s p) ++ drop n s
  unfolding in_offset offset
  offset-back p n e h =
      let own : ((two s p + 255) % 65536 + 65281) % 65536 ≡ two s p = omega (arith, two-below p) in
      rw own (two_back p n e h)

  reference-back : (b n : ℕ) → n ≡ b + 3 → n ≤ length s → drop b s ≡ byte s b ∷ (in_offset (offset s (b + 1)) ++ drop n s)
  reference-back b n e h =
      one-back b (b + 1) refl (omega arith) ∙ ap (λ (l : List ℕ). byte s b ∷ l) (offset-back (b + 1) n (omega arith) h)

  -- by the kind byte
  module _ (at : ℕ) where
    abbrev Back : ℕ → Type 0
    Back b = (n : ℕ) → n ≡ at + 1 + body_length b → n ≤ length s → (record_of (kind_of b) s (at + 1) ≡ Unknown → ⊥)
        → b ∷ drop (at + 1) s ≡ encode (record_of (kind_of b) s (at + 1)) ++ drop n s

    body_back : (b : ℕ) → Back b
    unfolding record_of kind_of body_length encode
    body_back zero n e h some = absurd (some refl)
    body_back (suc zero) n e h some = ap (λ (l : List ℕ). 1 ∷ l) (four-back (at + 1) n e h)
    body_back (suc (suc zero)) n e h some =
        let b = at + 1 in
        let first = in_four (four s b) in
        let last = in_four (four s (b + 4)) in
        ap (λ (l : List ℕ). 2 ∷ l)
        (four-back b (b + 4) refl (omega arith)
        ∙ ap (λ (l : List ℕ). first ++ l)
        (four-back (b + 4) (b + 8) (omega arith) (omega arith)
        ∙ ap (λ (l : List ℕ). last ++ l)
        (one-back (b + 8) (b + 9) (omega arith) (omega arith)
        ∙ ap (λ (l : List ℕ). byte s (b + 8) ∷ l) (offset-back (b + 9) n (omega arith) h))
        ∙ sym (append_assoc last (byte s (b + 8) ∷ in_offset (offset s (b + 9))) (drop n s)))
        ∙ sym (append_assoc first (last ++ (byte s (b + 8) ∷ in_offset (offset s (b + 9)))) (drop n s)))
    body_back (suc (suc (suc zero))) n e h some = ap (λ (l : List ℕ). 3 ∷ l) (reference-back (at + 1) n (omega arith) h)
    body_back (suc (suc (suc (suc zero)))) n e h some = ap (λ (l : List ℕ). 4 ∷ l) (four-back (at + 1) n e h)
    body_back (suc (suc (suc (suc (suc zero))))) n e h some = ap (λ (l : List ℕ). 5 ∷ l) (one-back (at + 1) n e h)
    body_back (suc (suc (suc (suc (suc (suc zero)))))) n e h some =
        let z : n ≡ at + 1 = omega arith in ap (λ (m : ℕ). 6 ∷ drop m s) (sym z)
    body_back (suc (suc (suc (suc (suc (suc (suc zero))))))) n e h some = ap (λ (l : List ℕ). 7 ∷ l) (reference-back (at + 1) n (omega arith) h)
    body_back (suc (suc (suc (suc (suc (suc (suc (suc b)))))))) n e h some = absurd (some refl)

    pub bytes-encoded : (r : Record) (n : ℕ) → record_at s at ≡ r → (r ≡ Unknown → ⊥) → n ≡ at + 1 + body_length (byte s at) → n ≤ length s
        → drop at s ≡ encode r ++ drop n s
    unfolding record_at
    bytes-encoded r n is some e h =
        one-back at (at + 1) refl (omega arith)
        ∙ body_back (byte s at) n e h (λ z. some (sym is ∙ z))
        ∙ ap (λ (x : Record). encode x ++ drop n s) is

    pub whole-encoded : (t : Summary) (ns : List ℕ) (r : Record) (n : ℕ) → Whole s at t ns r n → drop at s ≡ encode r ++ drop n s
    whole-encoded t ns r n w = bytes-encoded r n w.is (clear-known r t ns w.clear) w.next w.fits
