-- Joining is refused with nothing but what `OfBoth` says, and wherever it says so.
use Rattle.std.specs.Prelude.{ℕ, ◌+◌, ◌≤◌, ◌<◌, ◌≡◌, refl, ◌≢◌, Bool, true, false, not, List, ltb, length}
use Rattle.std.proofs.Common.{arith, sym, ap, ◌∙◌}
use borrow.Author.Tests.{ltb-true, ltb-false, lt-ltb, le-ltb, not-true, not-false}
use Rattle.records.specs.Encoding.{encode_all}
use Rattle.model.specs.Table.{Table, count}
use Rattle.refusals.specs.declared.Refusal.{Refusal}
use Rattle.refusals.specs.Refusals.{met}
use Rattle.refusals.specs.Answers.{accepted, refused, ◌if◌else◌, Only}
use Rattle.refusals.proofs.AnswerLaws.{accepted-only, after-only, if-only}
use Rattle.serial.specs.Serial.{table}
use Rattle.tables.proofs.Nine.{told-some, refused-told}
use Rattle.outputs.specs.Given.{fitted}
use Rattle.joins.specs.Joining.{alike, joined_records, joining}
use Rattle.joins.proofs.Written.{alike_same, same_alike}
use Rattle.joins.specs.Refused.{BothAccepted, OfBoth, in_left, in_right, unlike, crowd, buffer}

-- two lists of lengths that differ are not alike, and the other way
unlike-differ : (ns ms : List ℕ) → alike ns ms ≡ false → ns ≢ ms
unlike-differ ns ms e same = let z : ◌≡◌ {A = Bool} false true = sym e ∙ ap (alike ns) (sym same) ∙ same_alike ns in false-true z
  where
    false-true : ◌≡◌ {A = Bool} false true → ⊥
    false-true z = let n : ◌≡◌ {A = ℕ} 0 1 = cc in omega arith

differ-unlike : (ns ms : List ℕ) → ns ≢ ms → alike ns ms ≡ false
differ-unlike ns ms d = go (alike ns ms) refl
  where
    go : (b : Bool) → alike ns ms ≡ b → alike ns ms ≡ false
    go true e = absurd (d (alike_same ns ms e))
    go false e = e

module _ (left right : List ℕ) (room : ℕ) where
  abbrev Allowed : Refusal → Type 0
  Allowed = OfBoth left right room

  -- no refusal has the ground 0
  pub both_some : (r : Refusal) → Allowed r → r.ground ≡ 0 → ⊥
  both_some r (in_left h) z = told-some left r h z
  both_some r (in_right e h) z = told-some _ r h z
  both_some r (unlike b d) z = omega (arith, z)
  both_some r (crowd b s m) z = omega (arith, z)
  both_some r (buffer b s m l) z = omega (arith, z)

  module _ (t u : Table) (both : BothAccepted left right t u) where
    -- after both tables
    tests-only : Only Allowed (
        refused (met 14 0) if not (alike t.lengths u.lengths) else
        refused (met 4 0) if ltb 16 (count t + count u) else
        fitted room (encode_all (joined_records t u)))
    unfolding fitted
    tests-only =
        let bs = encode_all (joined_records t u) in
        let loops = count t + count u in
        if-only Allowed (met 14 0) (not (alike t.lengths u.lengths)) _
        (λ d. unlike both (unlike-differ t.lengths u.lengths (not-true _ d))) λ s.
        let same = alike_same t.lengths u.lengths (not-false _ s) in
        if-only Allowed (met 4 0) (ltb 16 loops) _ (λ m. crowd both same (omega (arith, ltb-true 16 loops m))) λ few.
        if-only Allowed (met 13 0) (ltb room (length bs)) _
        (λ l. buffer both same (omega (arith, ltb-false 16 loops few)) (omega (arith, ltb-true room (length bs) l))) λ f. accepted-only Allowed bs

    -- AND WHEREVER: 14, 4, 13, or what is written
    pub unlike-where : t.lengths ≢ u.lengths → joining left right room ≡ refused (met 14 0)
    unfolding joining
    unlike-where d = rw (both.0, both.1, differ-unlike t.lengths u.lengths d)

    module _ (same : t.lengths ≡ u.lengths) where
      like : alike t.lengths u.lengths ≡ true
      like = ap (alike t.lengths) (sym same) ∙ same_alike t.lengths

      pub crowd-where : 16 < count t + count u → joining left right room ≡ refused (met 4 0)
      unfolding joining
      crowd-where m = rw (both.0, both.1, like, lt-ltb _ _ m)

      module _ (few : count t + count u ≤ 16) where
        pub buffer-where : room < length (encode_all (joined_records t u)) → joining left right room ≡ refused (met 13 0)
        unfolding joining fitted
        buffer-where l = rw (both.0, both.1, like, le-ltb _ _ few, lt-ltb _ _ l)

        pub written-where : length (encode_all (joined_records t u)) ≤ room → joining left right room ≡ accepted (encode_all (joined_records t u))
        unfolding joining fitted
        written-where l = rw (both.0, both.1, like, le-ltb _ _ few, le-ltb _ _ l)

  pub join-refused : Only Allowed (joining left right room)
  unfolding joining
  join-refused =
      after-only Allowed (table left) _ (λ r e. in_left (refused-told left r e)) λ t e.
      after-only Allowed (table right) _ (λ r f. in_right e (refused-told right r f)) λ u f.
      tests-only t u (e, f)

  -- a table that is refused decides: left's, and where left is accepted right's
  pub left-decides : (r : Refusal) → table left ≡ refused r → joining left right room ≡ refused r
  unfolding joining
  left-decides r e = rw e

  pub right-decides : (t : Table) (r : Refusal) → table left ≡ accepted t → table right ≡ refused r → joining left right room ≡ refused r
  unfolding joining
  right-decides t r e f = rw (e, f)
