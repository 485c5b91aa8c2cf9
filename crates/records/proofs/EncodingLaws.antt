-- The encoding of a record is read as that record.
use Rattle.std.specs.Prelude.{ℕ, ◌+◌, ◌<◌, ◌≡◌, refl, List, [], ◌∷◌, ◌++◌, length}
use Rattle.std.proofs.Common.{arith, sym, ap, ◌∙◌, append_assoc, append-nil, length-append, get_or-append-add}
use Rattle.records.specs.declared.Record.{Record}
use Rattle.records.specs.declared.Record.TheVariants.{Unknown, Array, Loop, Read, Constant, Operation, End, Statement}
use Rattle.records.specs.declared.Summary.{Summary}
use Rattle.records.specs.Bytes.{byte, two, four, offset, kind_of, body_length, record_of, record_at}
use Rattle.records.specs.Clear.{Clear, span_of}
use Rattle.records.proofs.Outcome.{Whole}
use Rattle.records.proofs.Same.{kind_in, record_same, record-length}
use Rattle.records.specs.Encoding.{in_two, in_four, in_offset, encode, encode_all, OffsetFits}

-- NUMBERS are read as they are written
two-read : (n : ℕ) (b : List ℕ) → two (in_two n ++ b) 0 ≡ n
unfolding two in_two
two-read n b = omega arith

four-read : (n : ℕ) (b : List ℕ) → four (in_four n ++ b) 0 ≡ n
unfolding four in_four two in_two
four-read n b = omega arith

offset_read : (o : ℕ) (b : List ℕ) → o < 65536 → offset (in_offset o ++ b) 0 ≡ o
unfolding offset in_offset two in_two
offset_read o b h = omega arith

-- THE ENCODING IS READ AS THE RECORD
same-loop : {f g l m o p : ℕ} (q : ℕ) → f ≡ g → l ≡ m → o ≡ p → Loop f l q o ≡ Loop g m q p
same-loop q e h k = cc

pub encode-first : (r : Record) (b : List ℕ) → OffsetFits r → record_at (encode r ++ b) 0 ≡ r
unfolding record_at record_of kind_of encode in_four in_two in_offset two four offset
encode-first Unknown b h = refl
encode-first (Array n) b h = ap Array (four-read n b)
encode-first (Loop f l q o) b h = same-loop q (four-read f b) (four-read l b) (offset_read o b h)
encode-first (Read q o) b h = ap (Read q) (offset_read o b h)
encode-first (Constant n) b h = ap Constant (four-read n b)
encode-first (Operation o) b h = refl
encode-first End b h = refl
encode-first (Statement q o) b h = ap (Statement q) (offset_read o b h)

pub encode-length : (r : Record) → length (encode r) ≡ 1 + span_of (kind_in r)
unfolding encode in_four in_two in_offset
encode-length Unknown = refl
encode-length (Array n) = refl
encode-length (Loop f l q o) = refl
encode-length (Read q o) = refl
encode-length (Constant n) = refl
encode-length (Operation o) = refl
encode-length End = refl
encode-length (Statement q o) = refl

-- at any place
module _ (a : List ℕ) (r : Record) (b : List ℕ) (h : OffsetFits r) where
  moved : (k : ℕ) → byte (encode r ++ b) (0 + k) ≡ byte (a ++ (encode r ++ b)) (length a + k)
  moved k = let e : 0 + k ≡ k = omega arith in ap (byte (encode r ++ b)) e ∙ sym (get_or-append-add a (encode r ++ b) k 0)

  pub encode-read : record_at (a ++ (encode r ++ b)) (length a) ≡ r
  encode-read = sym (record_same (encode r ++ b) (a ++ (encode r ++ b)) 0 (length a) (λ k l. moved k)) ∙ encode-first r b h

  -- and its body is as long as its kind says
  pub encode-body : length (encode r) ≡ 1 + body_length (byte (a ++ (encode r ++ b)) (length a))
  encode-body =
      encode-length r
      ∙ ap (λ n. 1 + n) (sym (record-length (a ++ (encode r ++ b)) (length a) r encode-read))

-- a record that is clear is a whole record where its encoding stands
clear-offset : (r : Record) (t : Summary) (ns : List ℕ) → Clear r t ns → OffsetFits r
clear-offset Unknown t ns c = tt
clear-offset (Array n) t ns c = tt
clear-offset (Loop f l q o) t ns c = omega (arith, c.5)
clear-offset (Read q o) t ns c = omega (arith, c.3)
clear-offset (Constant n) t ns c = tt
clear-offset (Operation o) t ns c = tt
clear-offset End t ns c = tt
clear-offset (Statement q o) t ns c = omega (arith, c.4)

pub encode-whole : (a : List ℕ) (r : Record) (b : List ℕ) (t : Summary) (ns : List ℕ) → Clear r t ns
    → Whole (a ++ (encode r ++ b)) (length a) t ns r (length (a ++ encode r))
encode-whole a r b t ns c =
    let h = clear-offset r t ns c in
    let long = encode-body a r b h in
    let all = length-append a (encode r ++ b) in
    let own = length-append (encode r) b in
    let end = length-append a (encode r) in
    record {
      there = omega (arith, long, all, own);
      is = encode-read a r b h;
      next = omega (arith, long, end);
      fits = omega (arith, all, own, end);
      clear = c;
    }

-- ROWS OF RECORDS
pub encode-append : (xs ys : List Record) → encode_all (xs ++ ys) ≡ encode_all xs ++ encode_all ys
unfolding encode_all
encode-append [] ys = refl
encode-append (x ∷ xs) ys = ap (λ (l : List ℕ). encode x ++ l) (encode-append xs ys) ∙ sym (append_assoc (encode x) (encode_all xs) (encode_all ys))

pub encode_one : (r : Record) → encode_all (r ∷ []) ≡ encode r
unfolding encode_all
encode_one r = append-nil (encode r)
