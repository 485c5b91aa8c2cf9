-- The plain order: the loops in table order, each from first to last. The plain run does just that. Assumes nothing.
use Rattle.std.specs.Prelude.{◌≡◌, refl, ◌↔◌, List, [], ◌∷◌, ℕ, zero, suc, ◌+◌, ◌-◌, Float}
use Rattle.std.proofs.Common.{sym, ◌∙◌, ap, zero-add, arith}
use Rattle.std.proofs.Math.Path.{fun_ext}
use mathlib.Core.List.{Memᴰ as Mem}
use Rattle.order.specs.Sequences.{Before, NoDup, joined, run_all}
use Rattle.order.specs.Reorder.{run_all-append}
use Rattle.model.specs.declared.Iteration.{Iteration}
use Rattle.model.specs.Table.{Table, count, first, last, iteration, Inside}
use Rattle.model.specs.Bodies.{run}
use Rattle.model.specs.PlainRun.{upward, looped, plain_run}
use Rattle.lists.specs.Lists.{loop_over, over, by_loops}
use Rattle.lists.proofs.Order.{Less, by-loops-mem, by-loops-before, by-loops-once}
use Rattle.lists.specs.Fusion.{own}

abbrev pub plain : Table → List Iteration
plain t = by_loops (count t) (own t)

module _ (t : Table) where
  pub plain-mem : (x : Iteration) → Mem x (plain t) ↔ Inside t x
  plain-mem x = (
    λ m. let w = (by-loops-mem (count t) (own t) x).0 m in (w.loop, w.inside.0, omega (arith, w.inside.1)),
    λ (l, g, h). (by-loops-mem (count t) (own t) x).1 (record { loop = l; inside = (g, omega arith) }),
  )

  pub plain-before : (x y : Iteration) → Before x y (plain t) → Less x.number x.index y.number y.index
  plain-before = by-loops-before (count t) (own t)

  pub plain-once : NoDup (plain t)
  plain-once = by-loops-once (count t) (own t)

module _ {S : Type 0} (g : ℕ → S → S) where
  upward-last : (i n : ℕ) (s : S) → upward g i (suc n) s ≡ g (i + n) (upward g i n s)
  upward-last i zero s = let e : i ≡ i + 0 = omega arith in ap (λ (j : ℕ). g j s) e
  upward-last i (suc n) s =
      let e : suc i + n ≡ i + suc n = omega arith in
      upward-last (suc i) n (g i s) ∙ ap (λ (j : ℕ). g j (upward g i (suc n) s)) e

  upward-joined : {A : Type 0} (act : A → S → S) (f : ℕ → List A) → ((i : ℕ) (s : S) → g i s ≡ run_all act (f i) s)
      → (i n : ℕ) (s : S) → upward g i n s ≡ run_all act (joined n (λ j. f (i + j))) s
  upward-joined act f e i zero s = refl
  upward-joined act f e i (suc n) s =
      upward-last i n s ∙ ap (g (i + n)) (upward-joined act f e i n s) ∙ e (i + n) (run_all act (joined n (λ j. f (i + j))) s)
      ∙ sym (run_all-append act (joined n (λ j. f (i + j))) (f (i + n)) s)

pub plain-run : (t : Table) (m : List Float) → plain_run t m ≡ run_all (run t) (plain t) m
unfolding by_loops loop_over
plain-run t m =
    upward-joined (looped t) (run t) (over (own t))
    (λ k s. upward-joined (λ i. run t (iteration k i)) (run t) (λ i. iteration k i ∷ []) (λ i s. refl) (first t k) (suc (last t k) - first t k) s)
    0 (count t) m
    ∙ ap (λ (f : ℕ → List Iteration). run_all (run t) (joined (count t) f) m) (fun_ext λ k. ap (over (own t)) (zero-add k))
