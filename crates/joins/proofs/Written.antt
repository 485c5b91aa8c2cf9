-- What is known where two tables are joined.
use Rattle.std.specs.Prelude.{ℕ, ◌+◌, ◌≤◌, ◌≡◌, refl, Bool, true, false, not, ◌&&◌, List, [], ◌∷◌, ◌++◌, length, eqb, ltb}
use Rattle.std.proofs.Common.{arith, sym, ap, ◌∙◌, append_assoc, eqb-true, eq-eqb, ltb-false}
use Rattle.std.proofs.lemmas.Bool.{not-false}
use Rattle.records.specs.declared.Record.{Record}
use Rattle.records.specs.declared.Record.TheVariants.{End}
use Rattle.records.specs.Encoding.{encode_all}
use Rattle.model.specs.Table.{Table, count}
use Rattle.refusals.specs.Refusals.{met}
use Rattle.refusals.specs.Answers.{accepted}
use Rattle.refusals.proofs.AnswerLaws.{if-accepted, after-accepted}
use Rattle.serial.specs.Serial.{table}
use Rattle.outputs.specs.Given.{fitted}
use Rattle.joins.specs.Joining.{alike, joined_records, joining, together}
use Rattle.joins.specs.Example.{array, ones, twos, end, table_with, example}
use Rattle.joins.specs.Records.{array_records, loop_records, records_of}
use Rattle.joins.proofs.RecordsLaws.{loops-append}

-- alike means equal
pub alike_same : (ns ms : List ℕ) → alike ns ms ≡ true → ns ≡ ms
unfolding alike
alike_same [] [] e = refl
alike_same [] (m ∷ ms) e = let z : ◌≡◌ {A = ℕ} 0 1 = cc in absurd (omega arith)
alike_same (n ∷ ns) [] e = let z : ◌≡◌ {A = ℕ} 0 1 = cc in absurd (omega arith)
alike_same (n ∷ ns) (m ∷ ms) e = go (eqb n m) refl e (alike_same ns ms)
  where
    go : (b : Bool) → eqb n m ≡ b → (b && alike ns ms) ≡ true → (alike ns ms ≡ true → ns ≡ ms) → n ∷ ns ≡ m ∷ ms
    go true f h rest = let x : n ≡ m = eqb-true n m f in let y : ns ≡ ms = rest h in cc
    go false f h rest = let z : ◌≡◌ {A = ℕ} 0 1 = cc in absurd (omega arith)

pub same_alike : (ns : List ℕ) → alike ns ns ≡ true
unfolding alike
same_alike [] = refl
same_alike (n ∷ ns) = rw (eq-eqb n n refl) (same_alike ns)

-- what is written are the records of one table
pub joined-together : (t u : Table) → joined_records t u ≡ records_of (together t u)
unfolding joined_records records_of
joined-together t u =
    ap (λ (l : List Record). array_records t.lengths ++ l)
    (sym (append_assoc (loop_records t.loops) (loop_records u.loops) (End ∷ []))
    ∙ ap (λ (l : List Record). l ++ (End ∷ [])) (sym (loops-append t.loops u.loops)))

-- where bytes are written, both tables were accepted and met none of 14, 4 and 13
pub record Written (left right : List ℕ) (room : ℕ) (bs : List ℕ) : Type 0 where
  pub ours : Table
  pub theirs : Table
  pub left_is : table left ≡ accepted ours
  pub right_is : table right ≡ accepted theirs
  pub like : ours.lengths ≡ theirs.lengths
  pub few : count ours + count theirs ≤ 16
  pub fits : length bs ≤ room
  pub made : bs ≡ encode_all (joined_records ours theirs)

pub written_known : (left right : List ℕ) (room : ℕ) (bs : List ℕ) → joining left right room ≡ accepted bs → Written left right room bs
unfolding joining fitted
written_known left right room bs e =
    let (t, f, h) = after-accepted (table left) _ bs e in
    let (u, g, k) = after-accepted (table right) _ bs h in
    let (like, k₂) = if-accepted (met 14 0) (not (alike t.lengths u.lengths)) _ bs k in
    let (few, k₃) = if-accepted (met 4 0) (ltb 16 (count t + count u)) _ bs k₂ in
    let (fits, k₄) = if-accepted (met 13 0) (ltb room (length (encode_all (joined_records t u)))) _ bs k₃ in
    let made : encode_all (joined_records t u) ≡ bs = cc in
    record {
      ours = t;
      theirs = u;
      left_is = f;
      right_is = g;
      like = alike_same t.lengths u.lengths (not-false (alike t.lengths u.lengths) like);
      few = ltb-false 16 (count t + count u) few;
      fits = rw made at (ltb-false room (length (encode_all (joined_records t u))) fits);
      made = sym made;
    }

-- and there are such tables
pub some_written : Written (table_with 3 ones) (table_with 3 twos) 40 (array 3 ++ (ones ++ (twos ++ end)))
some_written = written_known (table_with 3 ones) (table_with 3 twos) 40 (array 3 ++ (ones ++ (twos ++ end))) example.joined
