-- The order inside one record: a refusal with 1 to 7 carries the number of the first test, in docs/TABLE.md's order, that holds at its place;
-- and the other way, that number is what an input is refused with.
use Rattle.std.specs.Prelude.{ℕ, ◌≤◌, ◌≡◌, refl, ◌⊎◌, ◌≢◌, List, [], ◌∷◌}
use Rattle.std.proofs.Common.{arith, sym, ap, subst, ◌∙◌, inl, inr, ⊎_elim}
use Rattle.refusals.specs.declared.Refusal.{Refusal}
use Rattle.refusals.specs.Refusals.{met}
use Rattle.refusals.specs.Answers.{accepted, refused}
use Rattle.records.specs.declared.Record.{Record}
use Rattle.records.specs.History.{summary, lengths}
use Rattle.records.proofs.Passing.{whole-ground}
use Rattle.reader.specs.Reading.{Answer, reading}
use Rattle.grounds.specs.Places.{Records}
use Rattle.grounds.specs.Statements.{Ground}
use Rattle.grounds.specs.Tests.{Test, tests, First, FirstAt}
use Rattle.grounds.proofs.Counted.{Clears}
use Rattle.grounds.proofs.Trace.{Clean, Last, stop, tail, done, Run, last, pass, run-reading, reading-ends, Earlier, visited}
use Rattle.grounds.proofs.Found.{ground-first}
use Rattle.grounds.proofs.Theorems.{refused-ground}

abbrev ByTest : List ℕ → Answer → Type 0
ByTest s (accepted t) = Unit {0}
ByTest s (refused r) = (r.ground ≡ 8) ⊎ FirstAt s r.place r.ground

by-test : (s : List ℕ) (p : ℕ) (rs : List Record) (a : Answer) → Records s p rs → Clears rs → Last s p rs a → ByTest s a
by-test s p rs a before c (stop e z) = inr (rs, before, subst (First (tests s p rs)) e (ground-first rs c s p))
by-test s p rs a before c (tail w l) = inl refl
by-test s p rs a before c (done w l) = tt

pub refused-test : (s : List ℕ) (r : Refusal) → reading s ≡ refused r → r.ground ≢ 8 → FirstAt s r.place r.ground
refused-test s r e other =
    let h = reading-ends s (refused r) e in
    ⊎_elim (λ tail. absurd (other tail)) (λ f. f) (by-test s h.place h.rs (refused r) h.before h.clears h.last)

-- there is one such number
pub first-once : (ts : List Test) (g h : ℕ) → First ts g → First ts h → g ≡ h
first-once [] g h d e = d ∙ sym e
first-once (t ∷ ts) g h (inl (a, d)) (inl (b, e)) = d ∙ sym e
first-once (t ∷ ts) g h (inl (a, d)) (inr (b, e)) = absurd (b a)
first-once (t ∷ ts) g h (inr (a, d)) (inl (b, e)) = absurd (a b)
first-once (t ∷ ts) g h (inr (a, d)) (inr (b, e)) = first-once ts g h d e

-- where no ground holds at an earlier place, the first test that holds decides the answer
pub test-refused : (s : List ℕ) (p g : ℕ) → FirstAt s p g → g ≢ 0 → ((m q : ℕ) → Ground m s q → p ≤ q) → reading s ≡ refused (met g p)
test-refused s p g (rs, before, first) some none =
    ⊎_elim (λ h. at (reading s) h.0 h.1) (λ e. absurd (not_earlier (reading s) refl e)) (visited s (reading s) (run-reading s) p rs before)
  where
    not-clean : Clears rs → (r : Record) (n : ℕ) → Clean s p rs r n → ⊥
    not-clean c r n w =
        some (first-once (tests s p rs) g 0 first
        (subst (First (tests s p rs)) (whole-ground (summary rs) (lengths rs) s p r n w) (ground-first rs c s p)))

    at : (a : Answer) → Run s p rs a → Clears rs → a ≡ refused (met g p)
    at a (last (stop {g = h} e z)) c =
        ap (λ (n : ℕ). refused (met n p)) (first-once (tests s p rs) h g (subst (First (tests s p rs)) e (ground-first rs c s p)) first)
    at a (last (tail w l)) c = absurd (not-clean c _ _ w)
    at a (last (done w l)) c = absurd (not-clean c _ _ w)
    at a (pass w o h) c = absurd (not-clean c _ _ w)

    not_earlier : (a : Answer) → reading s ≡ a → Earlier a p → ⊥
    not_earlier (accepted t) e h = h
    not_earlier (refused r) e h = omega (arith, none r.ground r.place (refused-ground s r e))
