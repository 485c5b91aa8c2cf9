-- Laws of the memory: what 12 lets pass, and that no iteration changes the memory's length.
use Rattle.std.specs.Prelude.{ℕ, zero, suc, ◌-◌, ◌≡◌, not, eqb, length, Float}
use Rattle.std.proofs.Math.Path.{refl, ap}
use Rattle.std.proofs.Common.{◌∙◌}
use mathlib.Core.List.{List, [], ◌∷◌}
use Rattle.std.proofs.Math.ListN.{length-set}
use borrow.Author.Tests.{eqb-true, not-false, eq-eqb, ne_eqb}
use Rattle.order.specs.Sequences.{run_all}
use Rattle.model.specs.declared.Iteration.{Iteration}
use Rattle.model.specs.Table.{Statement, Table, loop, first, last, iteration}
use Rattle.model.specs.Bodies.{place, value, performed, run}
use Rattle.model.specs.PlainRun.{upward, looped}
use Rattle.refusals.specs.Refusals.{met}
use Rattle.refusals.specs.Answers.{AnswerOf, accepted, refused}
use Rattle.refusals.proofs.AnswerLaws.{if-accepted, after-accepted}
use Rattle.iterations.specs.Memory.{remembered}

module _ {T : Type 0} (size : T → ℕ) where
  pub remembered-accepted : (n : ℕ) (a : AnswerOf T) (t : T) → remembered size n a ≡ accepted t → (a ≡ accepted t) × (n ≡ size t)
  unfolding remembered
  remembered-accepted n a t e =
      let (u, f, g) = after-accepted a _ t e in
      let (like, h) = if-accepted (met 12 0) (not (eqb n (size u))) (accepted u) t g in
      let z : u ≡ t = cc in
      (f ∙ h, eqb-true n (size u) (not-false (eqb n (size u)) like) ∙ ap size z)

  -- a memory of that length is accepted, and one of another length refused
  pub remembered-as-long : (n : ℕ) (t : T) → n ≡ size t → remembered size n (accepted t) ≡ accepted t
  unfolding remembered
  remembered-as-long n t e = rw (eq-eqb n (size t) e)

  pub remembered-unlike : (n : ℕ) (t : T) → (n ≡ size t → ⊥) → remembered size n (accepted t) ≡ refused (met 12 0)
  unfolding remembered
  remembered-unlike n t e = rw (ne_eqb n (size t) e)

-- no statement changes the memory's length
module _ (ns : List ℕ) (i : ℕ) where
  statements-length : (b : List Statement) (m : List Float) → length (run_all (performed ns i) b m) ≡ length m
  unfolding performed
  statements-length [] m = refl
  statements-length (s ∷ b) m =
      statements-length b (performed ns i s m) ∙ length-set m (place ns s.array s.offset i) (value ns i s.items m)

pub run_length : (t : Table) (x : Iteration) (m : List Float) → length (run t x m) ≡ length m
run_length t x m = statements-length t.lengths x.index (loop t x.number).body m

upward-length : (g : ℕ → List Float → List Float) → ((i : ℕ) (m : List Float) → length (g i m) ≡ length m) → (i n : ℕ) (m : List Float)
    → length (upward g i n m) ≡ length m
upward-length g h i zero m = refl
upward-length g h i (suc n) m = upward-length g h (suc i) n (g i m) ∙ h i m

pub looped-length : (t : Table) (k : ℕ) (m : List Float) → length (looped t k m) ≡ length m
looped-length t k = upward-length (λ i. run t (iteration k i)) (λ i. run_length t (iteration k i)) (first t k) (suc (last t k) - first t k)
