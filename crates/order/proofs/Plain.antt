-- Every complete schedule of a plan leaves what the plain order leaves: what rests on the laws of the machine. Assumes nothing.
use Rattle.std.specs.Prelude.{◌≡◌, List, ℕ}
use Rattle.order.specs.Sequences.{Before, run_all}
use Rattle.order.specs.Reorder.{Commute}
use Rattle.order.specs.Machine.{Plan, trace, start, Exhausts}
use Rattle.order.proofs.Machine.{complete-in-order}
use Rattle.order.specs.Plain.{Kept, Covers, kept-before, plain-in-order}

module _ {A S : Type 0} (run : A → S → S) (p : Plan A) (L : List A) (all : Covers p L) where
  module _ (dep : A → A → Type 0) (commute : (x y : A) → (dep x y → ⊥) → Commute run x y)
      (legal : (x y : A) → dep x y → Before x y L → Kept p x y) where
    pub any-schedule : (bs : List ℕ) → Exhausts p bs → (s : S) → run_all run (trace p bs start) s ≡ run_all run L s
    any-schedule bs h =
        let o = complete-in-order p bs h in
        plain-in-order run p L all o (λ x y a b. commute x y (λ d. kept-before p o (legal x y d a) b))
