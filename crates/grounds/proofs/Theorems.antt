-- A refusal is given only where its ground holds, and an accepted table meets none of the grounds 1 to 8.
use Rattle.std.specs.Prelude.{ℕ, ◌≤◌, ◌<◌, ◌≡◌, refl, List, [], length, get_or}
use Rattle.std.proofs.Common.{arith, sym, subst, ◌∙◌, ⊎_elim}
use Rattle.refusals.specs.declared.Refusal.{Refusal}
use Rattle.refusals.specs.Refusals.{met}
use Rattle.records.specs.declared.Record.{Record}
use Rattle.records.specs.declared.Record.TheVariants.{Unknown, Array, Loop, Read, Constant, Operation, End, Statement}
use Rattle.records.specs.Bytes.{record_at}
use Rattle.records.specs.History.{summary, lengths}
use Rattle.records.specs.Clear.{Clear, Within}
use Rattle.refusals.specs.Answers.{accepted, refused}
use Rattle.reader.specs.Reading.{Answer, reading}
use Rattle.model.specs.Table.{Table}
use Rattle.grounds.specs.Places.{Records}
use Rattle.grounds.specs.PlaceLaws.{end-length}
use Rattle.grounds.specs.Statements.{loops, Misplaced, OutOfRange, OneTooMany, ManyElements, Unnumbered, NotOneLeft, NinthOrTooFew}
use Rattle.grounds.specs.Statements.{OutsideInLoop, OutsideArray, Torn, Tail, Ground}
use Rattle.grounds.proofs.StatementLaws.{by_number, ground-number, ground-place}
use Rattle.grounds.specs.Tests.{tests, First}
use Rattle.grounds.proofs.Counted.{arrays-counted, elements-counted, loops-counted, body-counted, Clears, loop-array}
use Rattle.grounds.proofs.Trace.{Clean, Last, stop, tail, done, Run, last, pass, run-reading, reading-ends, Earlier, visited}
use Rattle.grounds.proofs.Found.{not-outside, ground-first, first-ground}

-- WHERE A READING ENDS, ITS GROUND HOLDS
abbrev Meaning : List ℕ → Answer → Type 0
Meaning s (accepted t) = Unit {0}
Meaning s (refused r) = Ground r.ground s r.place × (r ≡ met r.ground r.place)

meaning : (s : List ℕ) (p : ℕ) (rs : List Record) (a : Answer) → Records s p rs → Clears rs → Last s p rs a → Meaning s a
meaning s p rs a before c (stop {g} e z) =
    (first-ground s p g rs before z (subst (First (tests s p rs)) e (ground-first rs c s p)), refl)
meaning s p rs a before c (tail {n} w l) =
    ((p, rs, before, w.there, w.is, omega (arith, w.next, end-length s p w.is), l), refl)
meaning s p rs a before c (done w l) = tt

refused-meaning : (s : List ℕ) (r : Refusal) → reading s ≡ refused r → Meaning s (refused r)
refused-meaning s r e = let h = reading-ends s (refused r) e in meaning s h.place h.rs (refused r) h.before h.clears h.last

-- a refusal with a number is given only where that number's statement holds, at the place that it carries
pub refused-ground : (s : List ℕ) (r : Refusal) → reading s ≡ refused r → Ground r.ground s r.place
refused-ground s r e = (refused-meaning s r e).0

-- and it names nothing
pub refused-unnamed : (s : List ℕ) (r : Refusal) → reading s ≡ refused r → r ≡ met r.ground r.place
refused-unnamed s r e = (refused-meaning s r e).1

-- A RECORD THAT MET NO GROUND IS NO GROUND FOR ANY REFUSAL
abbrev Refuted : (Record → List Record → Type 0) → List Record → Type 0
Refuted G rs = (r : Record) → Clear r (summary rs) (lengths rs) → G r rs → ⊥

module _ (rs : List Record) (clears : Clears rs) where
  not-misplaced : Refuted Misplaced rs
  not-misplaced Unknown c g = c
  not-misplaced (Array n) c g = omega (arith, c.0, loops-counted rs)
  not-misplaced (Loop f l q o) c g = g
  not-misplaced (Read q o) c g = omega (arith, c.0, loops-counted rs)
  not-misplaced (Constant n) c g = omega (arith, c.0, loops-counted rs)
  not-misplaced (Operation o) c g = omega (arith, c.0, loops-counted rs)
  not-misplaced End c g =
      let some : 0 < loops rs = omega (arith, c.0, loops-counted rs) in
      ⊎_elim (λ e. omega (arith, loop-array rs clears some)) (λ e. omega arith) g
  not-misplaced (Statement q o) c g = omega (arith, c.0, loops-counted rs)

  not-out-of-range : Refuted OutOfRange rs
  not-out-of-range Unknown c g = g
  not-out-of-range (Array n) c g = ⊎_elim (λ e. omega (arith, c.2)) (λ e. omega (arith, c.3)) g
  not-out-of-range (Loop f l q o) c g =
      ⊎_elim (λ e. omega (arith, c.2)) (λ h. ⊎_elim (λ e. omega (arith, c.3)) (λ e. omega (arith, c.5)) h) g
  not-out-of-range (Read q o) c g = omega (arith, c.3)
  not-out-of-range (Constant n) c g = g
  not-out-of-range (Operation o) c g = ⊎_elim (λ e. omega (arith, c.2)) (λ e. omega (arith, c.3)) g
  not-out-of-range End c g = g
  not-out-of-range (Statement q o) c g = omega (arith, c.4)

  not-one-too-many : Refuted OneTooMany rs
  not-one-too-many Unknown c g = g
  not-one-too-many (Array n) c g = omega (arith, c.1, arrays-counted rs)
  not-one-too-many (Loop f l q o) c g = omega (arith, c.1, loops-counted rs)
  not-one-too-many (Read q o) c g = omega (arith, c.1, g.1, (body-counted rs g.0).items)
  not-one-too-many (Constant n) c g = omega (arith, c.1, g.1, (body-counted rs g.0).items)
  not-one-too-many (Operation o) c g = omega (arith, c.1, g.1, (body-counted rs g.0).items)
  not-one-too-many End c g = g
  not-one-too-many (Statement q o) c g = omega (arith, c.2, g.1, (body-counted rs g.0).statements)

  not-many-elements : Refuted ManyElements rs
  not-many-elements Unknown c g = g
  not-many-elements (Array n) c g = omega (arith, c.4, elements-counted rs)
  not-many-elements (Loop f l q o) c g = g
  not-many-elements (Read q o) c g = g
  not-many-elements (Constant n) c g = g
  not-many-elements (Operation o) c g = g
  not-many-elements End c g = g
  not-many-elements (Statement q o) c g = g

  not-unnumbered : Refuted Unnumbered rs
  not-unnumbered Unknown c g = g
  not-unnumbered (Array n) c g = g
  not-unnumbered (Loop f l q o) c g = omega (arith, c.4, arrays-counted rs)
  not-unnumbered (Read q o) c g = omega (arith, c.2, arrays-counted rs)
  not-unnumbered (Constant n) c g = g
  not-unnumbered (Operation o) c g = g
  not-unnumbered End c g = g
  not-unnumbered (Statement q o) c g = omega (arith, c.3, arrays-counted rs)

  one_left : Refuted NotOneLeft rs
  one_left Unknown c g = g
  one_left (Array n) c g = g
  one_left (Loop f l q o) c g = g.1 (sym (body-counted rs g.0).waiting ∙ c.0)
  one_left (Read q o) c g = g
  one_left (Constant n) c g = g
  one_left (Operation o) c g = g
  one_left End c g = g.1 (sym (body-counted rs g.0).waiting ∙ c.1)
  one_left (Statement q o) c g = g.1 (sym (body-counted rs g.0).waiting ∙ c.1)

  not-ninth-or-too-few : Refuted NinthOrTooFew rs
  not-ninth-or-too-few Unknown c g = g
  not-ninth-or-too-few (Array n) c g = g
  not-ninth-or-too-few (Loop f l q o) c g = g
  not-ninth-or-too-few (Read q o) c g = omega (arith, c.4, g.1, (body-counted rs g.0).waiting)
  not-ninth-or-too-few (Constant n) c g = omega (arith, c.2, g.1, (body-counted rs g.0).waiting)
  not-ninth-or-too-few (Operation o) c g = omega (arith, c.4, g.1, (body-counted rs g.0).waiting)
  not-ninth-or-too-few End c g = g
  not-ninth-or-too-few (Statement q o) c g = g

  inside-loop : (q o : ℕ) → Within (summary rs).first (summary rs).last o (get_or (lengths rs) q 0) → OutsideInLoop q o rs → ⊥
  inside-loop q o w g =
      let b = body-counted rs g.0 in
      not-outside (summary rs).first (summary rs).last o (get_or (lengths rs) q 0) w.0 w.1 (rw (b.first, b.last) g.2)

  not-outside-array : Refuted OutsideArray rs
  not-outside-array Unknown c g = g
  not-outside-array (Array n) c g = g
  not-outside-array (Loop f l q o) c g = not-outside f l o (get_or (lengths rs) q 0) c.6.0 c.6.1 g.1
  not-outside-array (Read q o) c g = inside-loop q o c.5 g
  not-outside-array (Constant n) c g = g
  not-outside-array (Operation o) c g = g
  not-outside-array End c g = g
  not-outside-array (Statement q o) c g = inside-loop q o c.5 g

-- A GROUND HOLDS AT NO PLACE BEFORE THAT OF THE REFUSAL, and with a table at none
abbrev NotBefore : Answer → ℕ → Type 0
NotBefore (accepted t) q = ⊥
NotBefore (refused r) q = r.place ≤ q

not-before : (a : Answer) (p q : ℕ) → p ≤ q → Earlier a p → NotBefore a q
not-before (accepted t) p q h e = e
not-before (refused r) p q h e = omega arith

module _ (s : List ℕ) (a : Answer) (run : Run s 0 [] a) (q : ℕ) where
  -- at a place where no record could have met no ground
  unless-clean : (rs : List Record) → Records s q rs → ((r : Record) (n : ℕ) → Clean s q rs r n → Clears rs → ⊥) → NotBefore a q
  unless-clean rs before none = ⊎_elim (λ h. at a h.0 h.1) (λ e. not-before a q q (omega arith) e) (visited s a run q rs before)
    where
      at : (b : Answer) → Run s q rs b → Clears rs → NotBefore b q
      at b (last (stop e z)) c = omega arith
      at b (last (tail w l)) c = absurd (none End _ w c)
      at b (last (done w l)) c = absurd (none End _ w c)
      at b (pass w o h) c = absurd (none _ _ w c)

  unless : (G : Record → List Record → Type 0) → ((rs : List Record) → Clears rs → Refuted G rs)
      → (rs : List Record) → Records s q rs → G (record_at s q) rs → NotBefore a q
  unless G refuted rs before g =
      unless-clean rs before (λ r n w c. refuted rs c r w.clear (subst (λ (x : Record). G x rs) w.is g))

  unless-torn : Torn s q → NotBefore a q
  unless-torn (rs, before, torn) = unless-clean rs before λ r n w c. ⊎_elim (λ e. omega (arith, w.there)) (λ h. omega (arith, h.1, w.fits, w.next)) torn

  -- past the end record
  unless-tail : Tail s q → NotBefore a q
  unless-tail (p, rs, before, there, end, is, more) =
      ⊎_elim (λ h. at a h.0) (λ e. not-before a p q (omega arith) e) (visited s a run p rs before)
    where
      at : (b : Answer) → Run s p rs b → NotBefore b q
      at b (last (stop e z)) = omega arith
      at b (last (tail w l)) = omega (arith, w.next, end-length s p end)
      at b (last (done w l)) = absurd (omega (arith, w.next, end-length s p end))
      at b (pass w o h) = absurd (o (sym w.is ∙ end))

  ground-not-before : (n : ℕ) → Ground n s q → NotBefore a q
  ground-not-before n g =
      by_number s q (NotBefore a q) (record {
        torn = unless-torn;
        kind = λ h. unless Misplaced not-misplaced h.0 h.1 h.3;
        field = λ h. unless OutOfRange not-out-of-range h.0 h.1 h.3;
        crowd = ⊎_elim (λ h. unless OneTooMany not-one-too-many h.0 h.1 h.3) (λ h. unless ManyElements not-many-elements h.0 h.1 h.3);
        array = λ h. unless Unnumbered not-unnumbered h.0 h.1 h.3;
        body = ⊎_elim (λ h. unless NotOneLeft one_left h.0 h.1 h.3) (λ h. unless NinthOrTooFew not-ninth-or-too-few h.0 h.1 h.3);
        edge = λ h. unless OutsideArray not-outside-array h.0 h.1 h.3;
        tail = unless-tail;
      }) n g

-- an accepted table meets none of the grounds 1 to 8, at any place
pub accepted-none : (s : List ℕ) (t : Table) → reading s ≡ accepted t → (n p : ℕ) → Ground n s p → ⊥
accepted-none s t e n p g = ground-not-before s (accepted t) (subst (Run s 0 []) e (run-reading s)) p n g

-- so a table is accepted exactly where none of them holds
pub none-accepted : (s : List ℕ) → ((n p : ℕ) → Ground n s p → ⊥) → (t : Table) × (reading s ≡ accepted t)
none-accepted s none = go (reading s) refl
  where
    go : (a : Answer) → reading s ≡ a → (t : Table) × (reading s ≡ accepted t)
    go (accepted t) e = (t, e)
    go (refused r) e = absurd (none r.ground r.place (refused-ground s r e))

-- a refusal carries the first place where any of the grounds 1 to 8 holds
pub refused-first : (s : List ℕ) (r : Refusal) → reading s ≡ refused r → (m q : ℕ) → Ground m s q → r.place ≤ q
refused-first s r e m q g = ground-not-before s (refused r) (subst (Run s 0 []) e (run-reading s)) q m g

-- its number is 1 to 8, and its place is in the input or just past it
pub refused-number : (s : List ℕ) (r : Refusal) → reading s ≡ refused r → (1 ≤ r.ground) × (r.ground ≤ 8)
refused-number s r e = ground-number s r.ground r.place (refused-ground s r e)

pub refused-place : (s : List ℕ) (r : Refusal) → reading s ≡ refused r → r.place ≤ length s
refused-place s r e = ground-place s r.ground r.place (refused-ground s r e)
