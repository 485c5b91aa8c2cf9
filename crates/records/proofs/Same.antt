-- A record is told by its own bytes alone: where two rows of bytes agree, they have the same record.
use Rattle.std.specs.Prelude.{ℕ, ◌+◌, ◌≤◌, ◌<◌, ◌≡◌, List}
use Rattle.std.proofs.Common.{arith, sym, ◌∙◌}
use Rattle.std.proofs.Math.Path.{refl, ap}
use Rattle.records.specs.declared.Kind.{Kind}
use Rattle.records.specs.declared.Kind.TheVariants as kind
use Rattle.records.specs.declared.Record.{Record}
use Rattle.records.specs.declared.Record.TheVariants.{Unknown, Array, Loop, Read, Constant, Operation, End, Statement}
use Rattle.records.specs.Bytes.{byte, two, four, offset, kind_of, body_length, record_of, record_at}
use Rattle.records.specs.Clear.{span_of}
use Rattle.records.proofs.ClearLaws.{span-kind}

-- the kind of a record, and by it the length of the body
abbrev pub kind_in : Record → Kind
kind_in Unknown = kind.Unknown
kind_in (Array n) = kind.Array
kind_in (Loop f l q o) = kind.Loop
kind_in (Read q o) = kind.Read
kind_in (Constant n) = kind.Constant
kind_in (Operation o) = kind.Operation
kind_in End = kind.End
kind_in (Statement q o) = kind.Statement

kind-in : (k : Kind) (s : List ℕ) (b : ℕ) → kind_in (record_of k s b) ≡ k
unfolding record_of
kind-in kind.Unknown s b = refl
kind-in kind.Array s b = refl
kind-in kind.Loop s b = refl
kind-in kind.Read s b = refl
kind-in kind.Constant s b = refl
kind-in kind.Operation s b = refl
kind-in kind.End s b = refl
kind-in kind.Statement s b = refl

pub kind-of-record : (s : List ℕ) (at : ℕ) → kind_in (record_at s at) ≡ kind_of (byte s at)
unfolding record_at
kind-of-record s at = kind-in (kind_of (byte s at)) s (at + 1)

pub record-length : (s : List ℕ) (at : ℕ) (r : Record) → record_at s at ≡ r → body_length (byte s at) ≡ span_of (kind_in r)
record-length s at r e = span-kind (byte s at) ∙ ap span_of (sym (kind-of-record s at) ∙ ap kind_in e)

-- the n bytes from a on in s are those from b on in z
abbrev pub Same : List ℕ → ℕ → List ℕ → ℕ → ℕ → Type 0
Same s a z b n = (k : ℕ) → k < n → byte s (a + k) ≡ byte z (b + k)

module _ (s z : List ℕ) where
  same-part : (a b m n l : ℕ) → m + n ≤ l → Same s a z b l → Same s (a + m) z (b + m) n
  same-part a b m n l h same k less =
      let e : a + m + k ≡ a + (m + k) = omega arith in
      let f : b + m + k ≡ b + (m + k) = omega arith in
      rw (e, f) (same (m + k) (omega arith))

  same_first : (a b n : ℕ) → 0 < n → Same s a z b n → byte s a ≡ byte z b
  same_first a b n h same =
      let e : a ≡ a + 0 = omega arith in
      let f : b ≡ b + 0 = omega arith in
      ap (byte s) e ∙ same 0 h ∙ sym (ap (byte z) f)

  two-same : (a b n : ℕ) → 1 < n → Same s a z b n → two s a ≡ two z b
  unfolding two
  two-same a b n h same = rw (same_first a b n (omega arith) same, same 1 h)

  four_same : (a b n : ℕ) → 3 < n → Same s a z b n → four s a ≡ four z b
  unfolding four
  four_same a b n h same =
      rw (two-same a b n (omega arith) same, two-same (a + 2) (b + 2) 2 (omega arith) (same-part a b 2 2 n h same))

  offset-same : (a b n : ℕ) → 1 < n → Same s a z b n → offset s a ≡ offset z b
  unfolding offset
  offset-same a b n h same = rw (two-same a b n h same)

  -- the offset behind an array's number
  second-same : (a b : ℕ) → Same s a z b 3 → offset s (a + 1) ≡ offset z (b + 1)
  second-same a b same = offset-same (a + 1) (b + 1) 2 (omega arith) (same-part a b 1 2 3 (omega arith) same)

  fields-same : (k : Kind) (a b : ℕ) → Same s a z b (span_of k) → record_of k s a ≡ record_of k z b
  unfolding record_of
  fields-same kind.Unknown a b same = refl
  fields-same kind.Array a b same = rw (four_same a b 4 (omega arith) same)
  fields-same kind.Loop a b same =
      rw (
        four_same a b 11 (omega arith) same,
        four_same (a + 4) (b + 4) 4 (omega arith) (same-part a b 4 4 11 (omega arith) same),
        same 8 (omega arith),
        offset-same (a + 9) (b + 9) 2 (omega arith) (same-part a b 9 2 11 (omega arith) same),
      )
  fields-same kind.Read a b same = rw (same_first a b 3 (omega arith) same, second-same a b same)
  fields-same kind.Constant a b same = rw (four_same a b 4 (omega arith) same)
  fields-same kind.Operation a b same = rw (same_first a b 1 (omega arith) same)
  fields-same kind.End a b same = refl
  fields-same kind.Statement a b same = rw (same_first a b 3 (omega arith) same, second-same a b same)

  module _ (a b : ℕ) (same : Same s a z b (1 + body_length (byte s a))) where
    same_kind : byte s a ≡ byte z b
    same_kind = same_first a b (1 + body_length (byte s a)) (omega arith) same

    pub record_same : record_at s a ≡ record_at z b
    unfolding record_at
    record_same =
        fields-same (kind_of (byte s a)) (a + 1) (b + 1)
        (same-part a b 1 (span_of (kind_of (byte s a))) (1 + body_length (byte s a)) (omega (arith, span-kind (byte s a))) same)
        ∙ ap (λ (x : ℕ). record_of (kind_of x) z (b + 1)) same_kind
