-- Rows of calls from counts of 0, whatever numbers they name. Once every action has been reported, the row is a complete schedule; and of
-- every row, complete or not: no action twice, and none before one of an earlier phase.
use Rattle.std.specs.Prelude.{ℕ, ◌<◌, ◌≡◌, refl, List, ◌∷◌, ◌++◌}
use Rattle.std.proofs.Common.{arith, ap, subst, ◌∙◌, ⊎_elim}
use Rattle.std.proofs.Math.Decide.{dec_lt}
use mathlib.Core.List.Memᴰ
use mathlib.Core.List.Memᴰ.{head as mhere}
use mathlib.Core.List.Memᴰ.{tail as mthere}
use mathlib.Core.List.{Memᴰ as Mem}
use Rattle.order.specs.Lists.{if_yes, joined-mem, mem-joined}
use Rattle.order.specs.Sequences.{Before, NoDup, run_all}
use Rattle.order.specs.Machine.{trace, start, Exhausts}
use Rattle.order.proofs.Exists.{complete-exists}
use Rattle.order.specs.Rows.{Rows, plan, whole, cut-mem}
use Rattle.order.proofs.Reported.{reports-once, after-earlier, reported-complete, complete-reported}
use Rattle.turns.specs.Turn.{Said, refuses, performs, waits, ends, After}
use Rattle.turns.specs.Row.{action_in, actions_of, none_done, reports, memory_after, Complete}
use Rattle.turns.specs.Calls.{work, Calls}
use Rattle.turns.proofs.Follows.{started}

-- an action is reported exactly if it is among those performed
pub actions-mem : {A : Type 0} (x : A) (ss : List (Said A)) → Mem (performs x) ss → Mem x (actions_of ss)
actions-mem x ss (mhere {xs = l} e) = subst (λ (s : Said _). Mem x (action_in s ++ actions_of l)) e (mhere refl)
actions-mem x ss (mthere {x = refuses r} {xs = l} m) = actions-mem x l m
actions-mem x ss (mthere {x = performs y} {xs = l} m) = mthere (actions-mem x l m)
actions-mem x ss (mthere {x = waits} {xs = l} m) = actions-mem x l m
actions-mem x ss (mthere {x = ends} {xs = l} m) = actions-mem x l m

pub mem-actions : {A : Type 0} (x : A) (ss : List (Said A)) → Mem x (actions_of ss) → Mem (performs x) ss
mem-actions {A = A} x mathlib.Core.List.[] m = elim m [ ]
mem-actions x (refuses r ∷ ss) m = mthere (mem-actions x ss m)
mem-actions x (performs y ∷ ss) m =
    ⊎_elim (λ (e : x ≡ y). mhere (ap performs e)) (λ h. mthere (mem-actions x ss h)) (Memᴰ.cases_cons m)
mem-actions x (waits ∷ ss) m = mthere (mem-actions x ss m)
mem-actions x (ends ∷ ss) m = mthere (mem-actions x ss m)

-- the machine's lists are those of the rows
module _ {A : Type 0} (r : Rows A) where
  pub plan-mem : (n b : ℕ) (x : A) → n < r.phases → b < r.size → Mem x (r.work n b) → Mem x ((plan r).list b)
  plan-mem n b x l i m = rw (if_yes (dec_lt b r.size) (whole r b) _ i) (joined-mem (λ n. r.work n b) r.phases n l m)

  pub mem-plan : (b : ℕ) (x : A) → Mem x ((plan r).list b) → (n : ℕ) × (n < r.phases) × (b < r.size) × Mem x (r.work n b)
  mem-plan b x m =
      let (i, h) = cut-mem r b x (dec_lt b r.size) m in
      let (n, l, g) = mem-joined (λ n. r.work n b) r.phases h in
      (n, l, i, g)

module _ {A M : Type 0} {none : A} {r : Rows A} {run : A → M → M} {Fits : M → Type 0} {step : ℕ → List ℕ → M → After A M}
    (k : Calls none r run Fits step) where
  module _ (bs : List ℕ) (m : M) (fits : Fits m) where
    -- what the row's calls perform, in order
    abbrev pub row : List A
    row = actions_of (reports step bs none_done m)

    pub row_is : row ≡ trace (plan r) bs start
    row_is = (started k bs m fits).actions

    -- then nothing is left
    pub complete-exhausts : Complete step (work r) bs m → Exhausts (plan r) bs
    complete-exhausts all =
        reported-complete (plan r) bs
        (λ b x h. let (n, l, i, g) = mem-plan r b x h in rw (← row_is) (actions-mem x (reports step bs none_done m) (all n b x l i g)))

    -- so if every complete schedule leaves what g does (order's any-schedule-by-keys), the row does
    pub any-row : (g : M → M) → ((ds : List ℕ) → Exhausts (plan r) ds → (s : M) → run_all run (trace (plan r) ds start) s ≡ g s)
        → Complete step (work r) bs m → memory_after step bs none_done m ≡ g m
    any-row g same all = (started k bs m fits).memory ∙ same bs (complete-exhausts all) m

    pub exhausts-complete : Exhausts (plan r) bs → Complete step (work r) bs m
    exhausts-complete e n b x l i h =
        mem-actions x (reports step bs none_done m) (rw row_is (complete-reported (plan r) bs e b x (plan-mem r n b x l i h)))

    pub once : NoDup row
    once = rw row_is (reports-once (plan r) bs)

    -- an action of a later phase is reported only after every action of an earlier one
    pub barrier : (i j a b : ℕ) (x y : A) → i < j → j < r.phases → a < r.size → b < r.size → Mem y (r.work i a) → Mem x (r.work j b) → Mem x row
        → Before y x row
    barrier i j a b x y l late p q g h =
        let early : i < r.phases = omega arith in
        let u = (r.known i a y early p g).1 in
        let v = (r.known j b x late q h).1 in
        rw row_is (after-earlier (plan r) bs a x y (plan-mem r i a y early p g) (omega arith))

  -- there is a complete row
  pub some-row : (m : M) → Fits m → (bs : List ℕ) × Complete step (work r) bs m
  some-row m fits = let (bs, e) = complete-exists (plan r) in (bs, exhausts-complete bs m fits e)
