-- What joining writes can be copied: left's bytes without its end, and right's without its arrays.
use Rattle.std.specs.Prelude.{ℕ, ◌+◌, ◌*◌, ◌-◌, ◌<◌, ◌≡◌, refl}
use Rattle.std.proofs.Common.{arith, ◌∙◌, length-drop, length-take-le}
use Rattle.std.proofs.Math.Path.{sym, ap, ap₂}
use mathlib.Core.List.{List, [], ◌∷◌, ◌++◌, append_assoc}
use Rattle.std.proofs.Math.ListN.{length, take, drop, length-append}
use Rattle.std.proofs.Math.Seq.{take_at, drop_at}
use Rattle.records.specs.declared.Record.{Record}
use Rattle.records.specs.declared.Record.TheVariants.{Array, End}
use Rattle.records.specs.Encoding.{encode, encode_all, Bytes}
use Rattle.records.proofs.EncodingLaws.{encode-length, encode-append}
use Rattle.model.specs.Table.{Table}
use Rattle.refusals.specs.Answers.{accepted}
use Rattle.reader.specs.Reading.{reading}
use Rattle.joins.specs.Records.{array_records, loop_records, records_of}
use Rattle.joins.proofs.Canonical.{canonical}
use Rattle.joins.specs.Joining.{joined_records}
use Rattle.joins.specs.Copied.{bytes}

pub bytes-length : (left right : List ℕ) (arrays : ℕ) → 0 < length left → length (bytes left right arrays) ≡ length left - 1 + (length right - 5 * arrays)
unfolding bytes
bytes-length left right arrays some =
    length-append (take (length left - 1) left) (drop (5 * arrays) right)
    ∙ rw (length-take-le (length left - 1) left (omega arith), length-drop (5 * arrays) right)

arrays-length : (ns : List ℕ) → length (encode_all (array_records ns)) ≡ 5 * length ns
unfolding array_records encode_all
arrays-length [] = refl
arrays-length (n ∷ ns) = omega (arith, arrays-length ns, length-append (encode (Array n)) (encode_all (array_records ns)), encode-length (Array n))

module _ (t u : Table) where
  abbrev begin : List Record
  begin = array_records t.lengths ++ loop_records t.loops

  abbrev rest : List Record
  rest = loop_records u.loops ++ (End ∷ [])

  without_end : (left : List ℕ) → left ≡ encode_all (records_of t) → take (length left - 1) left ≡ encode_all begin
  unfolding records_of encode_all encode
  without_end left e =
      let split : left ≡ encode_all begin ++ encode_all (End ∷ []) =
      e
      ∙ ap encode_all (sym (append_assoc (array_records t.lengths) (loop_records t.loops) (End ∷ [])))
      ∙ encode-append begin (End ∷ []) in
      let one : length left ≡ length (encode_all begin) + 1 = ap length split ∙ length-append (encode_all begin) (encode_all (End ∷ [])) in
      ap (λ (l : List ℕ). take (length left - 1) l) split
      ∙ take_at (encode_all begin) (encode_all (End ∷ [])) (length left - 1) (omega arith)

  without-arrays : (right : List ℕ) → right ≡ encode_all (records_of u) → drop (5 * length u.lengths) right ≡ encode_all rest
  unfolding records_of
  without-arrays right e =
      ap (drop (5 * length u.lengths)) (e ∙ encode-append (array_records u.lengths) rest)
      ∙ drop_at (encode_all (array_records u.lengths)) (encode_all rest) (5 * length u.lengths) (arrays-length u.lengths)

  joined-split : encode_all begin ++ encode_all rest ≡ encode_all (joined_records t u)
  unfolding joined_records
  joined-split = sym (encode-append begin rest) ∙ ap encode_all (append_assoc (array_records t.lengths) (loop_records t.loops) rest)

  -- THE LAW: of two tables with the same arrays these bytes are the joined table's
  pub bytes-joined : (left right : List ℕ) → Bytes left → Bytes right → reading left ≡ accepted t → reading right ≡ accepted u
      → t.lengths ≡ u.lengths → bytes left right (length t.lengths) ≡ encode_all (joined_records t u)
  unfolding bytes
  bytes-joined left right b c e g same =
      ap₂ (λ (x y : List ℕ). x ++ y) (without_end left (canonical left t b e))
      (ap (λ (ns : List ℕ). drop (5 * length ns) right) same ∙ without-arrays right (canonical right u c g))
      ∙ joined-split
