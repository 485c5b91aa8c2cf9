-- The encoding of records whose fields fit is bytes: each element is below 256.
use Rattle.std.specs.Prelude.{ℕ, zero, suc, ◌+◌, ◌/◌, ◌%◌, ◌<◌, ◌≡◌, refl}
use Rattle.std.proofs.Common.{arith, sym, ap, subst, ◌∙◌}
use mathlib.Core.List.{List, [], ◌∷◌, ◌++◌, append_assoc, Memᴰ}
use Rattle.records.specs.declared.Record.{Record}
use Rattle.records.specs.declared.Record.TheVariants.{Unknown, Array, Loop, Read, Constant, Operation, End, Statement}
use Rattle.records.specs.Encoding.{in_two, in_four, in_offset, encode, encode_all, Bytes, FieldsFit}

cons-bytes : (x : ℕ) (l : List ℕ) → x < 256 → Bytes l → Bytes (x ∷ l)
cons-bytes x l h b zero = h
cons-bytes x l h b (suc k) = b k

two_bytes : (n : ℕ) (l : List ℕ) → n < 65536 → Bytes l → Bytes (in_two n ++ l)
unfolding in_two
two_bytes n l h b = cons-bytes (n % 256) (n / 256 ∷ l) (omega arith) (cons-bytes (n / 256) l (omega arith) b)

four_bytes : (n : ℕ) (l : List ℕ) → n < 4294967296 → Bytes l → Bytes (in_four n ++ l)
unfolding in_four
four_bytes n l h b =
    rw (append_assoc (in_two (n % 65536)) (in_two (n / 65536)) l)
    (two_bytes (n % 65536) (in_two (n / 65536) ++ l) (omega arith) (two_bytes (n / 65536) l (omega arith) b))

-- a kind, an array and an offset
reference-bytes : (k q o : ℕ) (l : List ℕ) → k < 256 → q < 256 → Bytes l → Bytes (k ∷ q ∷ (in_offset o ++ l))
unfolding in_offset
reference-bytes k q o l g h b =
    cons-bytes k (q ∷ (in_offset o ++ l)) g (cons-bytes q (in_offset o ++ l) h (two_bytes ((o + 65281) % 65536) l (omega arith) b))

record-bytes : (r : Record) (l : List ℕ) → FieldsFit r → Bytes l → Bytes (encode r ++ l)
unfolding encode in_offset
record-bytes Unknown l h b = cons-bytes 0 l (omega arith) b
record-bytes (Array n) l h b = cons-bytes 1 (in_four n ++ l) (omega arith) (four_bytes n l h b)
record-bytes (Loop f m q o) l h b =
    let rest = q ∷ in_offset o in
    let own : Bytes (rest ++ l) = cons-bytes q (in_offset o ++ l) h.2 (two_bytes ((o + 65281) % 65536) l (omega arith) b) in
    let split : in_four f ++ (in_four m ++ rest) ++ l ≡ in_four f ++ (in_four m ++ (rest ++ l)) =
    append_assoc (in_four f) (in_four m ++ rest) l ∙ ap (λ (z : List ℕ). in_four f ++ z) (append_assoc (in_four m) rest l) in
    subst Bytes (ap (λ (z : List ℕ). 2 ∷ z) (sym split))
    (cons-bytes 2 (in_four f ++ (in_four m ++ (rest ++ l))) (omega arith)
    (four_bytes f (in_four m ++ (rest ++ l)) h.0 (four_bytes m (rest ++ l) h.1 own)))
record-bytes (Read q o) l h b = reference-bytes 3 q o l (omega arith) h b
record-bytes (Constant n) l h b = cons-bytes 4 (in_four n ++ l) (omega arith) (four_bytes n l h b)
record-bytes (Operation o) l h b = cons-bytes 5 (o ∷ l) (omega arith) (cons-bytes o l h b)
record-bytes End l h b = cons-bytes 6 l (omega arith) b
record-bytes (Statement q o) l h b = reference-bytes 7 q o l (omega arith) h b

pub encode-bytes : (rs : List Record) → ((r : Record) → Memᴰ r rs → FieldsFit r) → Bytes (encode_all rs)
unfolding encode_all
encode-bytes [] h = λ k. omega arith
encode-bytes (r ∷ rs) h = record-bytes r (encode_all rs) (h r (Memᴰ.head refl)) (encode-bytes rs (λ x m. h x (Memᴰ.tail m)))
