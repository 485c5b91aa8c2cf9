-- A row of calls is a schedule of the machine with those lists: the same actions in the same order, the same counts, and the memory that
-- those actions leave.
use Prim.Native.Nat.{ℕ, ◌<◌}
use Rattle.std.proofs.Common.{arith, subst, ◌∙◌}
use Rattle.std.proofs.Math.Decide.{dec_lt}
use Rattle.std.specs.Prelude.{◌≡◌, refl, drop}
use Rattle.std.proofs.Math.Path.{sym, ap, fun_ext}
use mathlib.Core.List.{List, [], ◌∷◌, ◌++◌}
use Rattle.std.proofs.Math.Seq.{drop-nil}
use Rattle.order.specs.Sequences.{run_all}
use Rattle.order.specs.Reorder.{run_all-append}
use Rattle.order.specs.Machine.{left, next, count, trace, final, start}
use Rattle.order.specs.Rows.{Rows, plan}
use Rattle.blocks.specs.Sums.{column}
use Rattle.turns.specs.Turn.{After, turn}
use Rattle.turns.specs.Row.{action_in, actions_of, none_done, reports, counts_after, memory_after}
use Rattle.turns.specs.RowLaws.{none_done_lem}
use Rattle.turns.proofs.Reach.{none-reachable, turn-reachable}
use Rattle.turns.specs.Reachable.{Reachable}
use Rattle.turns.proofs.Machine.{turn-next, turn-counts, turn-memory}
use Rattle.turns.specs.Calls.{work, Calls}

module _ {A M : Type 0} {none : A} {r : Rows A} {run : A → M → M} {Fits : M → Type 0} {step : ℕ → List ℕ → M → After A M}
    (k : Calls none r run Fits step) where
  -- a call: it performs what the machine's turn does, and leaves its counts
  pub record Called (b : ℕ) (cs : List ℕ) (m : M) (a : After A M) : Type 0 where
    pub same : action_in a.said ≡ next (plan r) (column cs) (left (plan r) (column cs) b)
    pub counts : column a.counts ≡ count (plan r) (column cs) b (action_in a.said)
    pub memory : a.memory ≡ run_all run (action_in a.said) m
    pub reachable : Reachable (work r) a.counts
    pub fits : Fits a.memory

  run_fits : (l : List A) (m : M) → Fits m → Fits (run_all run l m)
  run_fits [] m f = f
  run_fits (x ∷ l) m f = run_fits l (run x m) (k.keeps x m f)

  pub called : (b : ℕ) (cs : List ℕ) (m : M) → Fits m → Reachable (work r) cs → Called b cs m (step b cs m)
  called b cs m f t = go (dec_lt b r.size)
    where
      go : Dec (b < r.size) → Called b cs m (step b cs m)
      go (yes l) =
          let e = turn-memory none r run b cs m in
          rw (k.step-turn b cs m f t l)
          (record {
            same = turn-next none r run b cs m k.some-phase l;
            counts = turn-counts none r run b cs m (omega arith);
            memory = e;
            reachable = turn-reachable none (work r) k.some-phase run k.few cs t b l m;
            fits = rw e (run_fits (action_in (turn none (work r) run b cs m).said) m f);
          })
      go (no l) =
          rw (k.step_past b cs m (omega arith))
          (record {
            same =
                sym (ap (λ (l : List A). next (plan r) (column cs) (drop (column cs b) l)) ((plan r).beyond b (omega arith))
                ∙ ap (next (plan r) (column cs)) (drop-nil (column cs b)));
            counts = refl;
            memory = refl;
            reachable = t;
            fits = f;
          })

  -- a row from the counts c
  pub record Follows (bs cs : List ℕ) (c : ℕ → ℕ) (m : M) : Type 0 where
    pub actions : actions_of (reports step bs cs m) ≡ trace (plan r) bs c
    pub counts : column (counts_after step bs cs m) ≡ final (plan r) bs c
    pub memory : memory_after step bs cs m ≡ run_all run (trace (plan r) bs c) m
    pub reachable : Reachable (work r) (counts_after step bs cs m)
    pub fits : Fits (memory_after step bs cs m)

  pub follows : (bs cs : List ℕ) (m : M) → Fits m → Reachable (work r) cs → Follows bs cs (column cs) m
  unfolding reports counts_after memory_after
  follows [] cs m f t = record { actions = refl; counts = refl; memory = refl; reachable = t; fits = f }
  follows (b ∷ bs) cs m f t =
      let a = step b cs m in
      let c = called b cs m f t in
      let g = follows bs a.counts a.memory c.fits c.reachable in
      let (p, q) = turned (column a.counts) (action_in a.said) c.same c.counts in
      let u = trace (plan r) bs (column a.counts) in
      record {
        actions = ap (λ (l : List A). action_in a.said ++ l) g.actions ∙ p;
        counts = g.counts ∙ q;
        memory = g.memory ∙ ap (run_all run u) c.memory ∙ sym (run_all-append run (action_in a.said) u m) ∙ ap (λ (l : List A). run_all run l m) p;
        reachable = g.reachable;
        fits = g.fits;
      }
    where
      -- what the machine's turn performs, and then the rest, is the whole schedule
      turned : (c : ℕ → ℕ) (d : List A) → d ≡ next (plan r) (column cs) (left (plan r) (column cs) b) → c ≡ count (plan r) (column cs) b d
          → (d ++ trace (plan r) bs c ≡ trace (plan r) (b ∷ bs) (column cs)) × (final (plan r) bs c ≡ final (plan r) (b ∷ bs) (column cs))
      turned c d p q = rw (q, p) (refl, refl)

  -- a row from the first call's counts is a schedule from the machine's start
  pub started : (bs : List ℕ) (m : M) → Fits m → Follows bs none_done start m
  started bs m f = subst (λ (c : ℕ → ℕ). Follows bs none_done c m) (fun_ext none_done_lem) (follows bs none_done m f (none-reachable (work r)))
