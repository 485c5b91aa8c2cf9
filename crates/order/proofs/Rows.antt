-- A plan told by numbers: every complete schedule leaves what the plain order leaves. Assumes nothing.
use Rattle.std.specs.Prelude.{◌≡◌, ◌↔◌, List, ℕ, ◌<◌}
use mathlib.Core.List.{Memᴰ as Mem}
use Rattle.order.specs.Sequences.{Before, NoDup, run_all}
use Rattle.order.specs.Machine.{trace, start, Exhausts}
use Rattle.order.specs.Reorder.{Commute}
use Rattle.order.proofs.Plain.{any-schedule}
use Rattle.order.specs.Rows.{Rows, plan, Ordered, rows-covers, legal-kept}

module _ {A : Type 0} (r : Rows A) where
  open r use {size, phases, work, owner, phase}

  -- `L` has each action of each list once
  module _ (L : List A) (single : NoDup L)
      (home : (x : A) → Mem x L ↔ ((owner x < size) × (phase x < phases) × Mem x (work (phase x) (owner x)))) where
    -- every complete schedule leaves what `L` leaves
    module _ (dep : A → A → Type 0) (legal : (x y : A) → dep x y → Before x y L → Ordered r x y) where
      pub any-schedule-by-keys : {S : Type 0} (run : A → S → S) → ((x y : A) → (dep x y → ⊥) → Commute run x y)
          → (bs : List ℕ) → Exhausts (plan r) bs → (s : S) → run_all run (trace (plan r) bs start) s ≡ run_all run L s
      any-schedule-by-keys run commute = any-schedule run (plan r) L (rows-covers r L single home) dep commute (legal-kept r L single home dep legal)
