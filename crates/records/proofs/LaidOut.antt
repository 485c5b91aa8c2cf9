-- The record at a place is the one that docs/TABLE.md says; what is kept of an offset tells whether it is one from −255 to 255, and
-- every such offset can be written.
use Rattle.std.specs.Prelude.{ℕ, zero, suc, ◌+◌, ◌*◌, ◌-◌, ◌%◌, ◌≤◌, ◌<◌, ◌≡◌, refl, ◌⊎◌, false, List, [], ◌∷◌, ltb, ℤ, pos, negsuc, nat_abs, ◌+ℤ◌, ◌≤ℤ◌}
use native.Mathlib.Omega.{arith}
use Rattle.std.proofs.Math.Decide.{dec_lt}
use Rattle.std.proofs.Common.{ap, ◌∙◌, inl, inr, le→leb, lt→ltb, leb→le, lt-ltb, le-ltb}
use Rattle.std.specs.Int.Signed.{le_z_yes, lt_z_yes, clash_ℤ}
use Rattle.records.specs.declared.Kind.{Kind}
use Rattle.records.specs.declared.Kind.TheVariants as kind
use Rattle.records.specs.Bytes.{byte, two, four, offset, kind_of, record_of, record_at}
use Rattle.records.specs.Layout.{little_endian, number_in, signed, Kept, At}

-- LITTLE-ENDIAN

-- where there are no bytes left the number is 0
none : (n at : ℕ) → number_in [] at n ≡ 0
none zero at = refl
none (suc n) zero = refl
none (suc n) (suc at) = refl

one_more : (s : List ℕ) (at n : ℕ) → number_in s at (suc n) ≡ byte s at + 256 * number_in s (suc at) n
one_more [] zero n = omega (arith, none n 1)
one_more [] (suc at) n = omega (arith, none n (suc (suc at)))
one_more (x ∷ s) zero n = refl
one_more (x ∷ s) (suc at) n = one_more s at n

one_number : (s : List ℕ) (at : ℕ) → byte s at ≡ number_in s at 1
one_number s at = omega (arith, one_more s at 0)

two-number : (s : List ℕ) (at : ℕ) → two s at ≡ number_in s at 2
unfolding two
two-number s at =
    let e : at + 1 ≡ suc at = omega arith in
    rw e (omega (arith, one_more s at 1, one_more s (suc at) 0))

four-number : (s : List ℕ) (at : ℕ) → four s at ≡ number_in s at 4
unfolding four
four-number s at =
    let e : at + 2 ≡ suc (suc at) = omega arith in
    rw e (omega (arith, two-number s at, two-number s (suc (suc at)), one_more s at 3, one_more s (suc at) 2, one_more s at 1, one_more s (suc at) 0))

-- TWO'S COMPLEMENT

-- n stands for −(k + 1)
below : (n k : ℕ) → n + suc k ≡ 65536 → 32768 ≤ n → signed n ≡ negsuc k
below n k e h =
    let r : 65536 - suc n ≡ k = omega arith in
    rw (le-ltb n 32768 h, lt-ltb n 65536 (omega arith), r)

above : (n : ℕ) → n < 32768 → signed n ≡ pos n
above n h = rw (lt-ltb n 32768 h)

-- the four ways of an offset: 0 to 255, above, below −255, −255 to −1
kept_small : (n : ℕ) → n ≤ 255 → Kept (pos n) (n + 255)
kept_small n h = inl (le_z_yes tt, le_z_yes (le→leb n 255 h), refl)

kept-large : (n : ℕ) → 255 < n → Kept (pos n) (n + 255)
kept-large n h = inr (inr (lt_z_yes (lt→ltb 255 n h)), omega arith)

kept_low : (k o : ℕ) → 254 < k → 510 < o → Kept (negsuc k) o
kept_low k o h l = inr (inl (lt_z_yes (lt→ltb 254 k h)), l)

kept-negative : (k o : ℕ) → k ≤ 254 → o + suc k ≡ 255 → Kept (negsuc k) o
kept-negative k o h e =
    let r : 255 - suc k ≡ o = omega arith in
    let not-below : ltb 255 (suc k) ≡ false = le-ltb 255 (suc k) (omega arith) in
    inl (le_z_yes (le→leb k 254 h), le_z_yes tt, rw (not-below, r))

pub offset-kept : (n : ℕ) → n < 65536 → Kept (signed n) ((n + 255) % 65536)
offset-kept n h = go (dec_lt n 256) (dec_lt n 32768) (dec_lt n 65281)
  where
    go : Dec (n < 256) → Dec (n < 32768) → Dec (n < 65281) → Kept (signed n) ((n + 255) % 65536)
    go (yes a) b c = let r : (n + 255) % 65536 ≡ n + 255 = omega arith in rw (above n (omega arith), r) (kept_small n (omega arith))
    go (no a) (yes b) c = let r : (n + 255) % 65536 ≡ n + 255 = omega arith in rw (above n b, r) (kept-large n (omega arith))
    go (no a) (no b) (yes c) =
        rw (below n (65535 - n) (omega arith) (omega arith)) (kept_low (65535 - n) ((n + 255) % 65536) (omega arith) (omega arith))
    go (no a) (no b) (no c) =
        rw (below n (65535 - n) (omega arith) (omega arith)) (kept-negative (65535 - n) ((n + 255) % 65536) (omega arith) (omega arith))

-- THE RECORD AT A PLACE

-- the kind byte of each kind
abbrev KindByte : Kind → ℕ → Type 0
KindByte kind.Unknown b = (b < 1) ⊎ (7 < b)
KindByte kind.Array b = b ≡ 1
KindByte kind.Loop b = b ≡ 2
KindByte kind.Read b = b ≡ 3
KindByte kind.Constant b = b ≡ 4
KindByte kind.Operation b = b ≡ 5
KindByte kind.End b = b ≡ 6
KindByte kind.Statement b = b ≡ 7

kind-byte : (b : ℕ) → KindByte (kind_of b) b
unfolding kind_of
kind-byte zero = inl (omega arith)
kind-byte (suc zero) = refl
kind-byte (suc (suc zero)) = refl
kind-byte (suc (suc (suc zero))) = refl
kind-byte (suc (suc (suc (suc zero)))) = refl
kind-byte (suc (suc (suc (suc (suc zero))))) = refl
kind-byte (suc (suc (suc (suc (suc (suc zero)))))) = refl
kind-byte (suc (suc (suc (suc (suc (suc (suc zero))))))) = refl
kind-byte (suc (suc (suc (suc (suc (suc (suc (suc n)))))))) = inr (omega arith)

module _ (s : List ℕ) (bytes : (i : ℕ) → byte s i < 256) where
  two-below : (at : ℕ) → two s at < 65536
  unfolding two
  two-below at = omega (arith, bytes at, bytes (at + 1))

  offset_at : (at : ℕ) → Kept (signed (number_in s at 2)) (offset s at)
  unfolding offset
  offset_at at =
      let e : offset s at ≡ (two s at + 255) % 65536 = omega arith in
      rw (e, ← (two-number s at)) (offset-kept (two s at) (two-below at))

  pub record-at : (p : ℕ) → At s p (record_at s p)
  unfolding record_at record_of
  record-at p = go (kind_of (byte s p)) (kind-byte (byte s p))
    where
      place : (n m : ℕ) → n ≡ 1 + m → p + 1 + m ≡ p + n
      place n m e = omega arith

      go : (k : Kind) → KindByte k (byte s p) → At s p (record_of k s (p + 1))
      go kind.Unknown h = h
      go kind.Array h = (h, four-number s (p + 1))
      go kind.Loop h =
          rw (place 5 4 refl, place 9 8 refl, place 10 9 refl)
          (h, four-number s (p + 1), four-number s (p + 5), one_number s (p + 9), offset_at (p + 10))
      go kind.Read h = rw (place 2 1 refl) (h, one_number s (p + 1), offset_at (p + 2))
      go kind.Constant h = (h, four-number s (p + 1))
      go kind.Operation h = (h, one_number s (p + 1))
      go kind.End h = h
      go kind.Statement h = rw (place 2 1 refl) (h, one_number s (p + 1), offset_at (p + 2))

-- WHAT IS KEPT IS AT MOST 510 exactly where the offset is one from −255 to 255, and is then the offset with 255 added
pub kept_near : (v : ℤ) (o : ℕ) → Kept v o → o ≤ 510 → (negsuc 254 ≤ℤ v) × (v ≤ℤ pos 255) × (pos o ≡ v +ℤ pos 255)
kept_near v o (inl h) l = h
kept_near v o (inr (h, far)) l = absurd (omega arith)

pub near-kept : (v : ℤ) (o : ℕ) → Kept v o → negsuc 254 ≤ℤ v → v ≤ℤ pos 255 → o ≤ 510
near-kept (pos n) o (inl (h, l, e)) low high =
    let is : o ≡ n + 255 = ap nat_abs e in
    omega (arith, leb→le n 255 high.le)
near-kept (negsuc k) o (inl (h, l, e)) low high =
    let small : k ≤ 254 = leb→le k 254 low.le in
    let not-below : ltb 255 (suc k) ≡ false = le-ltb 255 (suc k) (omega arith) in
    let is : o ≡ 255 - suc k = ap nat_abs (rw not-below at e) in
    omega arith
near-kept v o (inr (inl below, far)) low high = clash_ℤ below low
near-kept v o (inr (inr past, far)) low high = clash_ℤ past high

-- EVERY OFFSET FROM −255 TO 255 CAN BE WRITTEN, in two bytes
pub offset-written : (v : ℤ) → negsuc 254 ≤ℤ v → v ≤ℤ pos 255
    → (a : ℕ) × (b : ℕ) × (a < 256) × (b < 256) × (signed (little_endian (a ∷ b ∷ [])) ≡ v)
offset-written (pos n) low high =
    let h : n ≤ 255 = leb→le n 255 high.le in
    (n, 0, omega arith, omega arith, above (n + 256 * (0 + 256 * 0)) (omega arith) ∙ ap pos (omega arith))
offset-written (negsuc k) low high =
    let h : k ≤ 254 = leb→le k 254 low.le in
    (255 - k, 255, omega arith, omega arith, below (255 - k + 256 * (255 + 256 * 0)) k (omega arith) (omega arith))
