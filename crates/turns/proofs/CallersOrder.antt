-- The run in a caller's order: its row of calls is complete, whatever numbers it takes.
use Prim.Native.Nat.{ℕ, zero, suc, ◌≤◌, ◌<◌}
use Rattle.std.proofs.Common.{arith, sym, subst, ◌∙◌, ltb-true, ltb-false, length-append}
use Rattle.std.proofs.Math.Decide.{dec_lt}
use Rattle.std.proofs.Math.Path.{◌≡◌, refl, ap}
use Rattle.std.specs.Prelude.{Bool, true, false, cond, ltb}
use Rattle.std.proofs.Math.Bool.{false≢true}
use mathlib.Core.List.Memᴰ
use mathlib.Core.List.{List, [], ◌∷◌}
use mathlib.Core.List.Memᴰ.{head as mhere}
use Rattle.std.proofs.Math.ListN.{length}
use Rattle.order.specs.Lists.{if_yes, pick-length, perm-length}
use Rattle.order.specs.Machine.{left, left-size, left-rest, rest, rest-next, next, next-open, bump, count, trace, final, start}
use Rattle.order.proofs.Machine.{left-next, runs, run-perm}
use Rattle.order.proofs.Exists.{Able, some-able, nothing}
use Rattle.order.specs.Rows.{Rows, plan, whole}
use Rattle.blocks.specs.Sums.{column}
use Rattle.blocks.specs.SumLaws.{total-same}
use Rattle.lists.specs.Joined.{length-joined}
use Rattle.turns.specs.Turn.{Said, refuses, performs, waits, ends, After, before}
use Rattle.turns.specs.Row.{action_in, none_done, counts_after, memory_after, performing, lowest, can_step, closing, listed, row_of, Complete}
use Rattle.turns.specs.Lowest.{lowest-holds, lowest-none}
use Rattle.turns.specs.RowLaws.{counts-append}
use Rattle.turns.specs.Reachable.{Reachable}
use Rattle.turns.specs.Calls.{work, Calls}
use Rattle.turns.proofs.Follows.{called, started}
use Rattle.turns.proofs.Complete.{exhausts-complete}

-- a call performs exactly if there is an action
performing-action : {A : Type 0} (s : Said A) → performing s ≡ true → (x : A) × (action_in s ≡ x ∷ [])
performing-action (refuses r) e = absurd (false≢true e)
performing-action (performs x) e = (x, refl)
performing-action waits e = absurd (false≢true e)
performing-action ends e = absurd (false≢true e)

action-performing : {A : Type 0} (s : Said A) (x : A) → action_in s ≡ x ∷ [] → performing s ≡ true
action-performing (refuses r) x e = cc
action-performing (performs y) x e = refl
action-performing waits x e = cc
action-performing ends x e = cc

module _ {A M : Type 0} {none : A} {r : Rows A} {run : A → M → M} {Fits : M → Type 0} {step : ℕ → List ℕ → M → After A M}
    (k : Calls none r run Fits step) where
  -- what all have left
  abbrev undone : List ℕ → List A
  undone cs = rest (plan r) (column cs)

  module _ (cs : List ℕ) (m : M) (fits : Fits m) (t : Reachable (work r) cs) where
    -- where nobody can step, nothing is left
    stuck : ((b : ℕ) → b < r.size → can_step step cs m b ≡ false) → undone cs ≡ []
    unfolding can_step
    stuck still = nothing (plan r) (undone cs) (λ x h. stays (some-able (plan r) (column cs) (suc (r.phase x)) x h (omega arith)))
      where
        stays : Able (plan r) (column cs) → ⊥
        stays (b, x, l, e, o) =
            let proper : b < r.size = left-size (plan r) (column cs) b {x = x} (rw e (mhere refl)) in
            let q = (called k b cs m fits t).same ∙ ap (next (plan r) (column cs)) e ∙ next-open (plan r) (column cs) x l o in
            false≢true (sym (still b proper) ∙ action-performing (step b cs m).said x q)

    -- a call that performs leaves one less
    fewer : (b : ℕ) → can_step step cs m b ≡ true → length (undone cs) ≡ suc (length (undone (step b cs m).counts))
    unfolding can_step
    fewer b e =
        let (x, d) = performing-action (step b cs m).said e in
        let c = called k b cs m fits t in
        taken x (left (plan r) (column cs) b) refl (sym c.same ∙ d) (column (step b cs m).counts) (c.counts ∙ ap (count (plan r) (column cs) b) d)
      where
        taken : (x : A) (l : List A) → left (plan r) (column cs) b ≡ l → next (plan r) (column cs) l ≡ x ∷ [] → (c : ℕ → ℕ) → c ≡ bump (plan r) (column cs) b
            → length (undone cs) ≡ suc (length (rest (plan r) c))
        taken x [] q n c z = let z : ◌≡◌ {A = ℕ} 0 1 = cc in absurd (omega arith)
        taken x (y ∷ l) q n c z = rw z (pick-length (rest-next (plan r) (column cs) b (left-next (plan r) (column cs) b q)))

  -- the calls after the order leave nothing
  closing-ends : (n : ℕ) (cs : List ℕ) (m : M) → Fits m → Reachable (work r) cs → length (undone cs) ≤ n
      → undone (counts_after step (closing step r.size n cs m) cs m) ≡ []
  unfolding closing counts_after
  closing-ends zero cs m fits t l = none_left (undone cs) l
    where
      none_left : (l : List A) → length l ≤ 0 → l ≡ []
      none_left [] h = refl
      none_left (x ∷ l) h = absurd (omega arith)
  closing-ends (suc n) cs m fits t l = go (ltb b r.size) refl (closing-ends n)
    where
      b : ℕ
      b = lowest r.size (can_step step cs m)

      a : After A M
      a = step b cs m

      go : (x : Bool) → ltb b r.size ≡ x
          → ((cs : List ℕ) (m : M) → Fits m → Reachable (work r) cs → length (undone cs) ≤ n
          → undone (counts_after step (closing step r.size n cs m) cs m) ≡ [])
          → undone (counts_after step (cond x (b ∷ closing step r.size n a.counts a.memory) []) cs m) ≡ []
      go true e ih =
          let h = fewer cs m fits t b (lowest-holds r.size (can_step step cs m) (ltb-true b r.size e)) in
          let c = called k b cs m fits t in
          ih a.counts a.memory c.fits c.reachable (omega arith)
      go false e ih = stuck cs m fits t (λ d i. lowest-none r.size d (can_step step cs m) (ltb-false b r.size e) i)

  -- all lists together have as many actions as the machine has to do
  all_listed : length (rest (plan r) start) ≡ listed (work r)
  all_listed =
      length-joined (left (plan r) start) r.size
      ∙ total-same r.size (λ b. length (left (plan r) start b)) (before (work r) r.phases)
      (λ b l. ap length (if_yes (dec_lt b r.size) (whole r b) [] l) ∙ length-joined (λ n. r.work n b) r.phases)

  module _ (order : List ℕ) (m : M) (fits : Fits m) where
    abbrev counts : List ℕ
    counts = counts_after step order none_done m

    enough : length (undone counts) ≤ listed (work r)
    enough =
        let p = perm-length (run-perm (plan r) (runs (plan r) order start)) in
        let q = ap (λ (c : ℕ → ℕ). length (rest (plan r) c)) (started k order m fits).counts in
        omega (arith, p, q, all_listed, length-append (trace (plan r) order start) (rest (plan r) (final (plan r) order start)))

    abbrev calls : List ℕ
    calls = row_of step r.size (listed (work r)) order m

    nothing_left : undone (counts_after step calls none_done m) ≡ []
    unfolding row_of
    nothing_left =
        let f = started k order m fits in
        let n = listed (work r) in
        ap undone (counts-append step order (closing step r.size n counts (memory_after step order none_done m)) none_done m)
        ∙ closing-ends n counts (memory_after step order none_done m) f.fits f.reachable enough

    -- its row is complete
    pub row-complete : Complete step (work r) (row_of step r.size (listed (work r)) order m) m
    row-complete =
        exhausts-complete k calls m fits
        (λ b. subst (λ (c : ℕ → ℕ). left (plan r) c b ≡ []) (started k calls m fits).counts
        (nothing (plan r) (left (plan r) (column (counts_after step calls none_done m)) b)
        (λ y h. Memᴰ.not-nil (rw nothing_left at (left-rest (plan r) (column (counts_after step calls none_done m)) b h)))))
