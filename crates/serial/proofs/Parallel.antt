-- A table is accepted through 9 exactly where the test finds nothing in any of its loops.
use Rattle.std.specs.Prelude.{ℕ, zero, suc, ◌+◌, ◌≤◌, ◌<◌, ◌≡◌, refl, List}
use Rattle.std.proofs.Common.{arith, ap, subst, ◌∙◌}
use Rattle.std.proofs.Math.Decide.{ℕ_discrete}
use Rattle.model.specs.Table.{Table, loop, count}
use Rattle.refusals.specs.Answers.{accepted, refused}
use Rattle.refusals.proofs.AnswerLaws.{not-both}
use Rattle.reader.specs.Reading.{Answer, reading}
use Rattle.std.specs.Prelude.{None, Some}
use Rattle.serial.specs.Serial.{Collision, loop_hit, after_loop, serial_from, through, table}

-- nothing in the n loops from loop k on
abbrev Clear : Table → ℕ → ℕ → Type 0
Clear t k n = (j : ℕ) → k ≤ j → j < k + n → loop_hit (loop t j) ≡ None

from-clear : (t : Table) (k n : ℕ) → Clear t k n → serial_from t k n ≡ accepted t
unfolding serial_from
from-clear t k zero c = refl
from-clear t k (suc n) c = rw (c k (omega arith) (omega arith)) (from-clear t (suc k) n (λ j l m. c j (omega arith) (omega arith)))

clear-from : (t u : Table) (k n : ℕ) → serial_from t k n ≡ accepted u → (t ≡ u) × Clear t k n
unfolding serial_from
clear-from t u k zero e = (cc, λ j l m. absurd (omega arith))
clear-from t u k (suc n) e = go (loop_hit (loop t k)) refl e (clear-from t u (suc k) n)
  where
    go : (x : Collision) → loop_hit (loop t k) ≡ x → after_loop k x (serial_from t (suc k) n) ≡ accepted u
        → (serial_from t (suc k) n ≡ accepted u → (t ≡ u) × Clear t (suc k) n) → (t ≡ u) × Clear t k (suc n)
    go None f h ih = let (is, c) = ih h in (is, λ j l m. at j l m (ℕ_discrete j k) c)
      where
        at : (j : ℕ) → k ≤ j → j < k + suc n → Dec (j ≡ k) → Clear t (suc k) n → loop_hit (loop t j) ≡ None
        at j l m (yes z) c = rw z f
        at j l m (no z) c = c j (omega arith) (omega arith)
    go (Some (i, j)) f h ih = absurd (not-both h)

-- no loop collides
abbrev pub Parallel : Table → Type 0
Parallel t = (k : ℕ) → k < count t → loop_hit (loop t k) ≡ None

pub parallel-accepted : (s : List ℕ) (t : Table) → reading s ≡ accepted t → Parallel t → table s ≡ accepted t
unfolding table through
parallel-accepted s t e p = ap through e ∙ from-clear t 0 (count t) (λ j l m. p j (omega arith))

pub accepted-parallel : (s : List ℕ) (t : Table) → table s ≡ accepted t → (reading s ≡ accepted t) × Parallel t
unfolding table through
accepted-parallel s t e = go (reading s) refl e
  where
    go : (x : Answer) → reading s ≡ x → through x ≡ accepted t → (reading s ≡ accepted t) × Parallel t
    go (refused r) f h = absurd (not-both h)
    go (accepted u) f h =
        let (is, c) = clear-from u t 0 (count u) h in
        (f ∙ ap accepted is, subst Parallel is (λ k l. c k (omega arith) (omega arith)))
