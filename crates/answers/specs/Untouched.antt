-- A refused call leaves all that it was lent as found; a step that waits or is finished does too.
use Rattle.std.specs.Prelude.{ℕ, ◌≡◌, refl, false, List, length, Float}
use Rattle.std.proofs.Common.{sym, ap, subst, ⊎_elim}
use Rattle.std.proofs.lemmas.Bool.{false≢true}
use Rattle.refusals.specs.declared.Refusal.{Refusal}
use Rattle.refusals.specs.Answers.{refused}
use Rattle.model.specs.declared.Iteration.{Iteration}
use Rattle.model.specs.Table.{iteration}
use Rattle.model.specs.Bodies.{run}
use Rattle.outputs.specs.Given.{Given, final, count_of}
use Rattle.plain.specs.Plain.{plain_answer, run_of, plain_memory}
use Rattle.turns.specs.Turn.{Said, refuses, performs, waits, ends, After, next, after, turn}
use Rattle.turns.specs.Row.{performing}
use Rattle.plans.specs.Plans.{Settings}
use Rattle.stepping.specs.Step.{work_of, step}
use Rattle.stepping.proofs.Meaning.{step_is}
use Rattle.stepping.specs.Run.{run_answer, memory_of, idle_of, run_memory, run_idle}

-- whatever is given in lent bytes: joined tables, numbers, a listing
pub output-untouched : (g : Given) (out : List ℕ) (r : Refusal) → g ≡ refused r → (final g out ≡ out) × (count_of g ≡ 0)
unfolding final
output-untouched g out r e = rw e (refl, refl)

-- the plain run
pub plain-untouched : (s : List ℕ) (m : List Float) (r : Refusal) → plain_answer s (length m) ≡ refused r → plain_memory s m ≡ m
unfolding plain_memory run_of
plain-untouched s m r e = rw e

-- the run in a caller's order
pub run-untouched : (s : List ℕ) (w : Settings) (order : List ℕ) (m : List Float) (r : Refusal) → run_answer s w (length m) ≡ refused r
    → (run_memory s w order m ≡ m) × (run_idle s w order m ≡ 0)
unfolding run_memory run_idle
run-untouched s w order m r e = (ap (memory_of s w order m) e, ap (idle_of s w order m) e)

-- the step: whatever it says, if that is no iteration
pub step-untouched : (s : List ℕ) (w : Settings) (b : ℕ) (counts : List ℕ) (m : List Float) → performing (step s w b counts m).said ≡ false
    → ((step s w b counts m).counts ≡ counts) × ((step s w b counts m).memory ≡ m)
unfolding turn
step-untouched s w b counts m e =
    ⊎_elim (λ (r, f). rw f (refl, refl))
    (λ (q, t).
    rw t.turns
    (still (run q.table) (next (iteration 0 0) (work_of q) b counts)
    (subst (λ (a : After Iteration (List Float)). performing a.said ≡ false) t.turns e)))
    (step_is s w b counts m)
  where
    still : (f : Iteration → List Float → List Float) (x : Said Iteration) → performing (after f b counts m x).said ≡ false
        → ((after f b counts m x).counts ≡ counts) × ((after f b counts m x).memory ≡ m)
    still f (refuses r) e = (refl, refl)
    still f (performs x) e = absurd (false≢true (sym e))
    still f waits e = (refl, refl)
    still f ends e = (refl, refl)
