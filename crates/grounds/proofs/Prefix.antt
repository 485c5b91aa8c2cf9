-- The first 2,364 bytes of an input decide its answer: every table has ended or met a ground by then.
use Prim.Native.Nat.{ℕ, zero, suc, ◌+◌, ◌≤◌, ◌<◌}
use Rattle.std.proofs.Common.{arith, sym, ap, subst, ◌∙◌, get_or-take, take_all, length-take-le}
use Rattle.std.proofs.Math.Decide.{dec_le}
use Rattle.std.specs.Prelude.{◌≡◌, length, take, eqb}
use Rattle.std.proofs.Math.Path.{refl}
use mathlib.Core.List.{List, [], ◌∷◌}
use Rattle.std.proofs.Math.Dec.{ltb, eqb-suc-zero}
use borrow.Author.Tests.{lt-leb, le-ltb, lt-ltb}
use Rattle.refusals.specs.Refusals.{met}
use Rattle.records.specs.declared.Kind.{Kind}
use Rattle.records.specs.declared.Kind.TheVariants as kind
use Rattle.records.specs.declared.Record.{Record}
use Rattle.records.specs.declared.Summary.{Summary}
use Rattle.records.specs.declared.Tested.{Tested}
use Rattle.records.specs.declared.Tested.TheVariants.{Refused, Passed, Ended}
use Rattle.records.specs.Bytes.{byte, two, four, offset, kind_of, record_of, record_at}
use Rattle.records.specs.History.{summary, lengths}
use Rattle.records.specs.Grounds.{early, fields, ground, passed, pick, tested}
use Rattle.records.specs.Clear.{span_of}
use Rattle.records.proofs.ClearLaws.{span-kind}
use Rattle.records.proofs.Outcome.{passed-whole, ended-whole}
use Rattle.refusals.specs.Answers.{accepted, refused, ◌if◌else◌}
use Rattle.reader.specs.Reading.{table_of, follow, read_from, reading}
use Rattle.grounds.specs.Places.{after, Records, start}
use Rattle.grounds.specs.PlaceLaws.{end-length}
use Rattle.grounds.proofs.Counted.{Clears}
use Rattle.grounds.proofs.Trace.{clean-next}
use Rattle.grounds.proofs.Sizes.{near, kind-near, end-near}

-- the tests, by how far they get
module _ (s : List ℕ) (p : ℕ) (t : Summary) (ns : List ℕ) (there : p < length s) where
  tested-early : (g : ℕ) → early (kind_of (byte s p)) t ≡ suc g → tested s p t ns ≡ Refused (met (suc g) p)
  unfolding tested ground
  tested-early g e = simp (lt-leb (length s) p there, e, eqb-suc-zero)

  tested-fields : early (kind_of (byte s p)) t ≡ 0 → after s p ≤ length s
      → tested s p t ns ≡ pick (eqb (fields (record_at s p) t ns) 0) (passed (record_at s p) (after s p)) (Refused (met (fields (record_at s p) t ns) p))
  unfolding tested ground
  tested-fields e fits = rw (lt-leb (length s) p there, e, le-ltb (length s) (after s p) fits)

-- a record in the first n bytes
module _ (s : List ℕ) (n : ℕ) where
  byte-take : (i : ℕ) → i < n → byte (take n s) i ≡ byte s i
  byte-take i h = get_or-take n s i 0 h

  two-take : (i : ℕ) → i + 2 ≤ n → two (take n s) i ≡ two s i
  unfolding two
  two-take i h = rw (byte-take i (omega arith), byte-take (i + 1) (omega arith))

  four-take : (i : ℕ) → i + 4 ≤ n → four (take n s) i ≡ four s i
  unfolding four
  four-take i h = rw (two-take i (omega arith), two-take (i + 2) (omega arith))

  offset-take : (i : ℕ) → i + 2 ≤ n → offset (take n s) i ≡ offset s i
  unfolding offset
  offset-take i h = rw (two-take i h)

  record-take : (k : Kind) (b : ℕ) → b + span_of k ≤ n → record_of k (take n s) b ≡ record_of k s b
  unfolding record_of
  record-take kind.Unknown b h = refl
  record-take kind.Array b h = rw (four-take b h)
  record-take kind.Loop b h =
      rw (four-take b (omega arith), four-take (b + 4) (omega arith), byte-take (b + 8) (omega arith), offset-take (b + 9) (omega arith))
  record-take kind.Read b h = rw (byte-take b (omega arith), offset-take (b + 1) (omega arith))
  record-take kind.Constant b h = rw (four-take b h)
  record-take kind.Operation b h = rw (byte-take b (omega arith))
  record-take kind.End b h = refl
  record-take kind.Statement b h = rw (byte-take b (omega arith), offset-take (b + 1) (omega arith))

-- an input of n bytes or more, and its first n
module _ (s : List ℕ) (n : ℕ) (enough : 2364 ≤ n) (long : n ≤ length s) where
  first-n : length (take n s) ≡ n
  first-n = length-take-le n s long

  module _ (p : ℕ) (rs : List Record) (before : Records s p rs) (c : Clears rs) where
    here : p < n
    here = omega (arith, near s p rs before c)

    there : p < length (take n s)
    there = omega (arith, first-n, here)

    same_byte : byte (take n s) p ≡ byte s p
    same_byte = byte-take s n p here

    same-record : after s p ≤ n → record_at (take n s) p ≡ record_at s p
    unfolding record_at
    same-record h =
        rw same_byte (record-take s n (kind_of (byte s p)) (p + 1) (subst (λ (m : ℕ). p + 1 + m ≤ n) (span-kind (byte s p)) h))

    tested-take : tested (take n s) p (summary rs) (lengths rs) ≡ tested s p (summary rs) (lengths rs)
    tested-take = go (early (kind_of (byte s p)) (summary rs)) refl
      where
        go : (g : ℕ) → early (kind_of (byte s p)) (summary rs) ≡ g → tested (take n s) p (summary rs) (lengths rs) ≡ tested s p (summary rs) (lengths rs)
        go zero e =
            let fits : after s p ≤ n = omega (arith, kind-near s p rs before c e) in
            tested-fields (take n s) p (summary rs) (lengths rs) there (rw same_byte e) (rw (same_byte, first-n) fits)
            ∙ rw (same-record fits, same_byte)
            (sym (tested-fields s p (summary rs) (lengths rs) (omega (arith, here)) e (omega arith)))
        go (suc g) e =
            tested-early (take n s) p (summary rs) (lengths rs) there g (rw same_byte e)
            ∙ sym (tested-early s p (summary rs) (lengths rs) (omega (arith, here)) g e)

  -- from any place that the reading comes to
  from-take : (f g : ℕ) (p : ℕ) (rs : List Record) → Records s p rs → Clears rs → length s < p + f → n < p + g
      → read_from g (take n s) p rs ≡ read_from f s p rs
  unfolding read_from follow
  from-take zero g p rs before c h l = absurd (omega (arith, here p rs before c))
  from-take (suc f) zero p rs before c h l = absurd (omega (arith, here p rs before c))
  from-take (suc f) (suc g) p rs before c h l =
      rw (tested-take p rs before c)
      (go (λ m r. from-take f g m (r ∷ rs)) (tested s p (summary rs) (lengths rs)) refl)
    where
      past : (m : ℕ) → m < n
          → (refused (met 8 m) if ltb m (length (take n s)) else accepted (table_of rs)) ≡ (refused (met 8 m) if ltb m (length s) else accepted (table_of rs))
      past m b = rw (lt-ltb m (length (take n s)) (omega (arith, first-n)), lt-ltb m (length s) (omega arith))

      go : ((m : ℕ) (r : Record) → Records s m (r ∷ rs) → Clears (r ∷ rs) → length s < m + f → n < m + g
          → read_from g (take n s) m (r ∷ rs) ≡ read_from f s m (r ∷ rs)) → (x : Tested) → tested s p (summary rs) (lengths rs) ≡ x
          → follow (take n s) rs (λ r m. read_from g (take n s) m (r ∷ rs)) x ≡ follow s rs (λ r m. read_from f s m (r ∷ rs)) x
      go rest (Refused k) e = refl
      go rest (Passed r m) e =
          let (w, o) = passed-whole s p (summary rs) (lengths rs) r m e in
          rest m r (clean-next s p rs r m before w o) (w.clear, c) (omega (arith, w.next)) (omega (arith, w.next))
      go rest (Ended m) e =
          let w = ended-whole s p (summary rs) (lengths rs) m e in
          past m (omega (arith, w.next, end-length s p w.is, end-near s p rs before c w.clear.1))

  whole_take : reading (take n s) ≡ reading s
  unfolding reading
  whole_take = from-take (suc (length s)) (suc (length (take n s))) 0 [] start tt (omega arith) (omega (arith, first-n))

-- any number of bytes from 2,364 on is enough
pub reading-take : (s : List ℕ) (n : ℕ) → 2364 ≤ n → reading (take n s) ≡ reading s
reading-take s n h = go (dec_le n (length s))
  where
    go : Dec (n ≤ length s) → reading (take n s) ≡ reading s
    go (yes long) = whole_take s n (omega arith) long
    go (no short) = ap reading (take_all n s (omega arith))
