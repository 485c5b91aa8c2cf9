-- The rows of a loop, and the walk over the loops. Assumes nothing.
use Prim.Native.Nat.{ℕ, suc, ◌+◌, ◌*◌, ◌-◌, ◌≤◌, ◌<◌}
use native.Mathlib.Omega.{arith}
use native.Mathlib.Numerals.{add-one}
use mathlib.Core.Path.{◌≡◌, ap, ap₂, ◌∙◌, fun_ext}
use mathlib.Core.Bool.{Bool, false, ◌||◌}
use Rattle.marks.specs.Marks.{marked, size}
use Rattle.marks.specs.MarkLaws.{size-most, size_same, none-marked}
use Rattle.model.specs.Table.{Table, count}
use Rattle.model.specs.PlainRunLaws.{upward-turn, upward-ended}
use Rattle.records.specs.declared.storage.Store.{Store}
use Rattle.reader.specs.Store.{start_at, loops_in, table_in}
use Rattle.reader.specs.Held.{Held, count_held, few-loops, few-rows}
use Rattle.sweeps.specs.declared.Sets.{Sets}
use Rattle.sweeps.specs.declared.Totals.{Totals}
use Rattle.sweeps.specs.Sweeps as Sweeps
use Rattle.sweeps.specs.Sweeps.{touched, written, sum_over, union_over, union, sweeps}
use Rattle.sweeps.specs.Rows.{SetsOf, Added}

-- the rows of loop k
module _ {c : Store} (h : Held c) (k : ℕ) (there : k < count (table_in c)) where
  pub loop-few : k < 16
  loop-few = omega (arith, count_held h, few-loops h)

  pub rows_past : (past : ℕ) → past ≡ start_at c (k + 1) → (past ≤ 576) × (past ≡ start_at c (suc k))
  rows_past past e = let f = e ∙ ap (start_at c) (add-one k) in (omega (arith, few-rows h (suc k) there), f)

-- the totals with loop k: z is its sets, x both their sizes, u the unions
pub added : (s : Totals) (t : Table) (k : ℕ) (z : Sets) → SetsOf t k z → (x : ℕ) (u : Sets) → x ≡ size (marked z.touched) + size (marked z.written)
    → ((q : ℕ) → marked u.touched q ≡ (marked s.sets.touched q || marked z.touched q))
    → ((q : ℕ) → marked u.written q ≡ (marked s.sets.written q || marked z.written q))
    → Added s (record { before = s.before + x; sets = u }) t k
added s t k z o x u e f g = record {
  sums = ap (λ (i : ℕ). s.before + i) (e ∙ ap₂ (λ (i j : ℕ). i + j) (size_same _ _ o.touches) (size_same _ _ o.writes));
  touches = λ q. f q ∙ ap (λ (b : Bool). marked s.sets.touched q || b) (o.touches q);
  writes = λ q. g q ∙ ap (λ (b : Bool). marked s.sets.written q || b) (o.writes q);
}

-- LOOPS
abbrev sizes : Table → ℕ → ℕ
sizes t k = size (touched t k) + size (written t k)

-- of so many loops those from loop k on, with what came before, give all of them
pub record LoopInv (c : Store) (loops k : ℕ) (s : Totals) : Type 0 where
  pub small : s.before ≤ 32 * k
  pub sums : sum_over (sizes (table_in c)) k (loops - k) s.before ≡ Sweeps.before (table_in c)
  pub touches : union_over (touched (table_in c)) k (loops - k) (marked s.sets.touched) ≡ union (table_in c) (touched (table_in c))
  pub writes : union_over (written (table_in c)) k (loops - k) (marked s.sets.written) ≡ union (table_in c) (written (table_in c))

module _ (c : Store) (h : Held c) (loops : ℕ) (all : loops ≡ loops_in c) where
  abbrev t : Table
  t = table_in c

  pub loops-few : loops ≤ 16
  loops-few = omega (arith, few-loops h)

  pub loops-start : LoopInv c loops 0 (record { before = 0; sets = record { touched = 0; written = 0 } })
  loops-start = record { small = omega arith; sums = rw whole; touches = rw (whole, empty); writes = rw (whole, empty) }
    where
      whole : loops - 0 ≡ count t
      whole = omega (arith, count_held h)

      empty : marked 0 ≡ (λ q. false)
      empty = fun_ext none-marked

  module _ (k : ℕ) (s : Totals) (inv : LoopInv c loops k s) where
    module _ (m : k < loops) where
      -- what the next loop asks
      pub room : (s.before < 65536) × Held c × (k < count t)
      room = (omega (arith, inv.small, loops-few), h, omega (arith, count_held h))

      pub loops-next : (r : Totals) → Added s r t k → LoopInv c loops (k + 1) r
      loops-next r b = rw (add-one k) (record {
        small = omega (arith, inv.small, b.sums, size-most (touched t k), size-most (written t k));
        sums = upward-turn _ k loops _ _ inv.sums m r.before b.sums;
        touches = upward-turn _ k loops _ _ inv.touches m (marked r.sets.touched) (fun_ext b.touches);
        writes = upward-turn _ k loops _ _ inv.writes m (marked r.sets.written) (fun_ext b.writes);
      })

    pub loops-done : loops ≤ k → (x : ℕ) → x ≡ size (marked s.sets.touched) + size (marked s.sets.written)
        → record { before = s.before; after = x } ≡ sweeps (table_in c)
    unfolding sweeps
    loops-done m x e =
        rw (e, upward-ended _ k loops _ _ inv.sums m, upward-ended _ k loops _ _ inv.touches m, upward-ended _ k loops _ _ inv.writes m)
