-- A table has one encoding: it is read as that table, and bytes that are read as it are that encoding.
use Rattle.std.specs.Prelude.{ℕ, ◌≡◌, List, [], ◌∷◌, ◌++◌, length, drop}
use Rattle.std.proofs.Common.{sym, ap, subst, ◌∙◌, append_assoc, append-nil}
use Rattle.std.proofs.Math.Seq.{drop-length}
use Rattle.records.specs.declared.Record.{Record}
use Rattle.records.specs.declared.Record.TheVariants.{End}
use Rattle.records.specs.History.{summary, lengths}
use Rattle.records.specs.Clear.{Clear}
use Rattle.records.proofs.Outcome.{Whole}
use Rattle.records.specs.Encoding.{encode, encode_all, Bytes}
use Rattle.records.proofs.EncodingLaws.{encode-whole, encode-append, encode_one}
use Rattle.records.proofs.EncodingUnique.{whole-encoded}
use Rattle.model.specs.Table.{Table}
use Rattle.refusals.specs.Answers.{accepted}
use Rattle.reader.specs.Reading.{reading, table_of, loops_of}
use Rattle.reader.specs.Accepting.{Rest, ended, passed, rest-accepted, accepted-rest}
use Rattle.joins.specs.Records.{array_records, loop_records, records_of}
use Rattle.joins.proofs.RecordsLaws.{before, before_more}

-- one record more
encode-more : (rs : List Record) (r : Record) → Clear r (summary rs) (lengths rs) → (r ≡ End → ⊥) → encode_all (before (r ∷ rs)) ≡ encode_all (before rs) ++ encode r
encode-more rs r c o =
    ap encode_all (before_more rs r c o)
    ∙ encode-append (before rs) (r ∷ [])
    ∙ ap (λ (l : List ℕ). encode_all (before rs) ++ l) (encode_one r)

-- the bytes of the table that records make
abbrev encoded : List Record → List ℕ
encoded all = encode_all (records_of (table_of all))

encoded-end : (all : List Record) → encoded all ≡ encode_all (before all) ++ encode End
unfolding records_of
encoded-end all =
    ap encode_all (sym (append_assoc (array_records (lengths all)) (loop_records (loops_of all [] [])) (End ∷ [])))
    ∙ encode-append (before all) (End ∷ [])
    ∙ ap (λ (l : List ℕ). encode_all (before all) ++ l) (encode_one End)

-- BYTES THAT ARE READ AS A TABLE ARE ITS ENCODING
rest-encoded : (s : List ℕ) → Bytes s → (at : ℕ) (rs all : List Record) → Rest s at rs all → encode_all (before rs) ++ drop at s ≡ encoded all
rest-encoded s b at rs all (ended w) =
    ap (λ (l : List ℕ). encode_all (before rs) ++ l)
    (whole-encoded s b at (summary rs) (lengths rs) End (length s) w
    ∙ ap (λ (l : List ℕ). encode End ++ l) (drop-length s)
    ∙ append-nil (encode End))
    ∙ sym (encoded-end rs)
rest-encoded s b at rs all (passed {n} {r} w o h) =
    ap (λ (l : List ℕ). encode_all (before rs) ++ l) (whole-encoded s b at (summary rs) (lengths rs) r n w)
    ∙ sym (append_assoc (encode_all (before rs)) (encode r) (drop n s))
    ∙ ap (λ (l : List ℕ). l ++ drop n s) (sym (encode-more rs r w.clear o))
    ∙ rest-encoded s b n (r ∷ rs) all h

pub canonical : (s : List ℕ) (t : Table) → Bytes s → reading s ≡ accepted t → s ≡ encode_all (records_of t)
unfolding lengths loops_of array_records loop_records encode_all
canonical s t b e =
    let (all, rest, is) = accepted-rest s t e in
    rw is (rest-encoded s b 0 [] all rest)

-- THE ENCODING IS READ AS THE TABLE
-- after the records rs come others, each clear after those before it, and then the end; all is what has then been read
pub data Onward : List Record → List Record → Type 0 where
  ends : {rs : List Record} → Clear End (summary rs) (lengths rs) → Onward rs rs
  goes : {rs all : List Record} {r : Record} → Clear r (summary rs) (lengths rs) → (r ≡ End → ⊥) → Onward (r ∷ rs) all → Onward rs all

-- whatever the bytes
pub rest-onward : (s : List ℕ) (at : ℕ) (rs all : List Record) → Rest s at rs all → Onward rs all
rest-onward s at rs all (ended w) = ends w.clear
rest-onward s at rs all (passed {n} {r} w o h) = goes w.clear o (rest-onward s n (r ∷ rs) all h)

-- the encoding begins with what has been read
onward-begins : (rs all : List Record) → Onward rs all → (b : List ℕ) × (encoded all ≡ encode_all (before rs) ++ b)
onward-begins rs all (ends c) = (encode End, encoded-end rs)
onward-begins rs all (goes {r} c o h) =
    let (b, e) = onward-begins (r ∷ rs) all h in
    (encode r ++ b, e ∙ ap (λ (l : List ℕ). l ++ b) (encode-more rs r c o) ∙ append_assoc (encode_all (before rs)) (encode r) b)

-- the next record, where it stands
next-whole : (rs all : List Record) (r : Record) (b : List ℕ) → encoded all ≡ encode_all (before rs) ++ (encode r ++ b) → Clear r (summary rs) (lengths rs)
    → Whole (encoded all) (length (encode_all (before rs))) (summary rs) (lengths rs) r (length (encode_all (before rs) ++ encode r))
next-whole rs all r b e c =
    let a = encode_all (before rs) in
    subst (λ (s : List ℕ). Whole s (length a) (summary rs) (lengths rs) r (length (a ++ encode r))) (sym e)
    (encode-whole a r b (summary rs) (lengths rs) c)

onward-rest : (rs all : List Record) → Onward rs all → Rest (encoded all) (length (encode_all (before rs))) rs all
onward-rest rs all (ends c) =
    let a = encode_all (before rs) in
    let e = encoded-end rs in
    ended
    (subst (Whole (encoded rs) (length a) (summary rs) (lengths rs) End) (sym (ap length e))
    (next-whole rs rs End [] (e ∙ ap (λ (l : List ℕ). a ++ l) (sym (append-nil (encode End)))) c))
onward-rest rs all (goes {r} c o h) =
    let a = encode_all (before rs) in
    let more = encode-more rs r c o in
    let (b, e) = onward-begins (r ∷ rs) all h in
    passed (next-whole rs all r b (e ∙ ap (λ (l : List ℕ). l ++ b) more ∙ append_assoc a (encode r) b) c) o
    (subst (λ (l : List ℕ). Rest (encoded all) (length l) (r ∷ rs) all) more (onward-rest (r ∷ rs) all h))

pub onward-accepted : (all : List Record) → Onward [] all → reading (encode_all (records_of (table_of all))) ≡ accepted (table_of all)
unfolding lengths loops_of array_records loop_records encode_all
onward-accepted all h = rest-accepted (encoded all) all (onward-rest [] all h)

pub encoding-read : (s : List ℕ) (t : Table) → reading s ≡ accepted t → reading (encode_all (records_of t)) ≡ accepted t
encoding-read s t e =
    let (all, rest, is) = accepted-rest s t e in
    rw is (onward-accepted all (rest-onward s 0 [] all rest))
