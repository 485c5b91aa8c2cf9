-- How a reading goes: the records that it passes, and where it ends.
use Rattle.std.specs.Prelude.{ℕ, zero, suc, ◌+◌, ◌≤◌, ◌<◌, ◌≡◌, refl, ◌⊎◌, Bool, true, false, List, [], ◌∷◌, length, ltb}
use Rattle.std.proofs.Common.{arith, sym, subst, subst₂, inl, inr, ltb-true, ltb-false}
use Rattle.refusals.specs.Refusals.{met}
use Rattle.records.specs.declared.Record.{Record}
use Rattle.records.specs.declared.Record.TheVariants.{Unknown, End}
use Rattle.records.specs.declared.Tested.{Tested}
use Rattle.records.specs.declared.Tested.TheVariants.{Refused, Passed, Ended}
use Rattle.records.specs.Bytes.{record_at}
use Rattle.records.specs.History.{summary, lengths}
use Rattle.records.specs.Grounds.{ground, tested}
use Rattle.records.specs.Clear.{Clear}
use Rattle.records.proofs.Outcome.{Whole, passed-whole, ended-whole}
use Rattle.records.proofs.Outcome.{refused-ground as tested-ground}
use Rattle.grounds.specs.Places.{after, Records, start, next}
use Rattle.grounds.proofs.Counted.{Clears}
use Rattle.refusals.specs.Answers.{accepted, refused, ◌if◌else◌}
use Rattle.reader.specs.Reading.{Answer, table_of, follow, read_from, reading}

-- after the records rs: a whole record at p that meets no ground, up to n
abbrev pub Clean : List ℕ → ℕ → List Record → Record → ℕ → Type 0
Clean s p rs r n = Whole s p (summary rs) (lengths rs) r n

-- at p, after the records rs, the reading of s ends with an answer: at a ground, at bytes past the end record, or with a table
pub data Last (s : List ℕ) : ℕ → List Record → Answer → Type 0 where
  stop : {p g : ℕ} {rs : List Record} → ground s p (summary rs) (lengths rs) ≡ g → (g ≡ 0 → ⊥) → Last s p rs (refused (met g p))
  tail : {p n : ℕ} {rs : List Record} → Clean s p rs End n → n < length s → Last s p rs (refused (met 8 n))
  done : {p n : ℕ} {rs : List Record} → Clean s p rs End n → length s ≤ n → Last s p rs (accepted (table_of rs))

-- from p on it passes records that meet no ground, and ends with an answer
pub data Run (s : List ℕ) : ℕ → List Record → Answer → Type 0 where
  last : {p : ℕ} {rs : List Record} {a : Answer} → Last s p rs a → Run s p rs a
  pass : {p n : ℕ} {rs : List Record} {r : Record} {a : Answer} → Clean s p rs r n → (r ≡ End → ⊥) → Run s n (r ∷ rs) a → Run s p rs a

run-from : (f : ℕ) (s : List ℕ) (p : ℕ) (rs : List Record) → p ≤ length s → length s < p + f → Run s p rs (read_from f s p rs)
unfolding read_from follow
run-from zero s p rs h l = absurd (omega arith)
run-from (suc f) s p rs h l = go (λ n r. run-from f s n (r ∷ rs)) (tested s p (summary rs) (lengths rs)) refl
  where
    ended : (n : ℕ) → Clean s p rs End n → (b : Bool) → ltb n (length s) ≡ b → Run s p rs (refused (met 8 n) if b else accepted (table_of rs))
    ended n w true e = last (tail w (ltb-true _ _ e))
    ended n w false e = last (done w (ltb-false _ _ e))

    go : ((n : ℕ) (r : Record) → n ≤ length s → length s < n + f → Run s n (r ∷ rs) (read_from f s n (r ∷ rs)))
        → (x : Tested) → tested s p (summary rs) (lengths rs) ≡ x → Run s p rs (follow s rs (λ r n. read_from f s n (r ∷ rs)) x)
    go rest (Refused r) e =
        let (is, some) = tested-ground s p (summary rs) (lengths rs) r e in
        rw is (last (stop refl (rw is at some)))
    go rest (Passed r n) e =
        let (w, o) = passed-whole s p (summary rs) (lengths rs) r n e in
        pass w o (rest n r w.fits (omega (arith, w.next)))
    go rest (Ended n) e = ended n (ended-whole s p (summary rs) (lengths rs) n e) (ltb n (length s)) refl

pub run-reading : (s : List ℕ) → Run s 0 [] (reading s)
unfolding reading
run-reading s = run-from (suc (length s)) s 0 [] (omega arith) (omega arith)

-- the place after a record that meets no ground
pub clean-next : (s : List ℕ) (p : ℕ) (rs : List Record) (r : Record) (n : ℕ) → Records s p rs → Clean s p rs r n → (r ≡ End → ⊥) → Records s n (r ∷ rs)
clean-next s p rs r n before w other =
    subst₂ (λ (m : ℕ) (x : Record). Records s m (x ∷ rs)) (sym w.next) w.is
    (next before (subst (λ (m : ℕ). m ≤ length s) w.next w.fits) (λ e. known (subst (λ (x : Record). x ≡ Unknown) w.is e))
    (λ e. other (subst (λ (x : Record). x ≡ End) w.is e)))
  where
    known : r ≡ Unknown → ⊥
    known e = subst (λ (x : Record). Clear x (summary rs) (lengths rs)) e w.clear

-- where a reading ends
pub record Ending (s : List ℕ) (a : Answer) : Type 0 where
  pub place : ℕ
  pub rs : List Record
  pub before : Records s place rs
  pub clears : Clears rs
  pub last : Last s place rs a

end_of : (s : List ℕ) (p : ℕ) (rs : List Record) (a : Answer) → Records s p rs → Clears rs → Run s p rs a → Ending s a
end_of s p rs a before c (last h) = record { place = p; rs = rs; before = before; clears = c; last = h }
end_of s p rs a before c (pass {n} {r} w other h) = end_of s n (r ∷ rs) a (clean-next s p rs r n before w other) (w.clear, c) h

pub reading-ends : (s : List ℕ) (a : Answer) → reading s ≡ a → Ending s a
reading-ends s a e = subst (Ending s) e (end_of s 0 [] (reading s) start tt (run-reading s))

-- a place after records is one that the reading comes to, or it ends earlier
abbrev pub Earlier : Answer → ℕ → Type 0
Earlier (accepted t) p = ⊥
Earlier (refused r) p = r.place < p

later : (a : Answer) (p q : ℕ) → p ≤ q → Earlier a p → Earlier a q
later (accepted t) p q h e = e
later (refused r) p q h e = omega arith

pub visited : (s : List ℕ) (a : Answer) → Run s 0 [] a → (p : ℕ) (rs : List Record) → Records s p rs → (Run s p rs a × Clears rs) ⊎ Earlier a p
visited s a run p rs start = inl (run, tt)
visited s a run p rs (next {p = q} {rs = qs} before fits known other) = step (visited s a run q qs before)
  where
    on : (b : Answer) → Run s q qs b → Clears qs → (Run s (after s q) (record_at s q ∷ qs) b × Clears (record_at s q ∷ qs)) ⊎ Earlier b (after s q)
    on b (last (stop e z)) c = inr (omega arith)
    on b (last (tail w l)) c = absurd (other w.is)
    on b (last (done w l)) c = absurd (other w.is)
    on b (pass {n} {r} w o h) c =
        inl (
          subst₂ (λ (m : ℕ) (x : Record). Run s m (x ∷ qs) b) w.next (sym w.is) h,
          (subst (λ (x : Record). Clear x (summary qs) (lengths qs)) (sym w.is) w.clear, c),
        )

    step : (Run s q qs a × Clears qs) ⊎ Earlier a q → (Run s (after s q) (record_at s q ∷ qs) a × Clears (record_at s q ∷ qs)) ⊎ Earlier a (after s q)
    step (inl h) = on a h.0 h.1
    step (inr e) = inr (later a q (after s q) (omega arith) e)
