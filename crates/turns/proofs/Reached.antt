-- Ground 15 refuses exactly the counts that no row reaches: a row reaches only counts that it lets in (Follows), and each of those is reached.
use Rattle.std.specs.Prelude.{ℕ, zero, suc, ◌-◌, ◌≤◌, ◌<◌, ◌≡◌, refl, ◌≢◌, Bool, true, false, ltb, set}
use Rattle.std.proofs.Common.{arith, ◌∙◌, ltb-true, ltb-false, length-set, get_or-set_same, get_or-set_other, set-set, ext_get_or}
use Rattle.std.proofs.Math.Decide.{ℕ_discrete, dec_lt}
use Rattle.std.proofs.Math.Path.{sym, ap}
use mathlib.Core.List.{List, [], ◌∷◌, ◌++◌}
use Rattle.std.proofs.Math.ListN.{length, get_or}
use Rattle.std.proofs.lemmas.List.{set-get_or}
use Rattle.order.specs.Rows.{Rows}
use Rattle.blocks.specs.Sums.{column, total, some}
use Rattle.blocks.specs.SumLaws.{total-less, some-which, some-each}
use Rattle.turns.specs.Turn.{Work, Said, After, before, next, after, turn}
use Rattle.turns.specs.Row.{none_done, counts_after, memory_after}
use Rattle.turns.specs.RowLaws.{none_done_lem, counts-append}
use Rattle.turns.proofs.Reach.{before-up, used-first, Turn, does, halts, stops, turn_is}
use Rattle.turns.specs.Reachable.{Opened, Reachable}
use Rattle.turns.specs.Calls.{work, Calls}
use Rattle.turns.proofs.Follows.{started}

-- one less of processor b
abbrev previous : List ℕ → ℕ → List ℕ
previous cs b = set cs b (column cs b - 1)

-- processor b's last step may have been the last of all: it was of phase n, and nobody has come further
record Last {A : Type 0} (w : Work A) (cs : List ℕ) (n b : ℕ) : Type 0 where
  few : w.processors ≤ 64
  state : Reachable w cs
  phase : n < w.phases
  furthest : (k : ℕ) → k < w.processors → column cs k ≤ before w (suc n) k
  proper : b < w.processors
  more : before w n b < column cs b

module _ {A : Type 0} {w : Work A} {cs : List ℕ} {n b : ℕ} (t : Last w cs n b) where
  abbrev ds : List ℕ
  ds = previous cs b

  same : column ds b ≡ column cs b - 1
  same = get_or-set_same cs b (column cs b - 1) 0 (omega arith)

  other : (k : ℕ) → k ≢ b → column ds k ≡ column cs k
  other k i = get_or-set_other cs b k (column cs b - 1) 0 i

  fewer : (k : ℕ) → column ds k ≤ column cs k
  fewer k = go (ℕ_discrete k b)
    where
      go : Dec (k ≡ b) → column ds k ≤ column cs k
      go (yes e) = rw e (omega (arith, same))
      go (no i) = omega (arith, other k i)

  less-total : total 64 (column (previous cs b)) < total 64 (column cs)
  less-total = total-less 64 b (column ds) (column cs) fewer (omega arith) (omega (arith, same))

  -- with one more it is as it was
  again : set ds b (suc (column ds b)) ≡ cs
  again =
      let e : suc (column ds b) ≡ column cs b = omega (arith, same) in
      ap (set ds b) e ∙ set-set cs b (column cs b - 1) (column cs b) ∙ set-get_or cs b 0

  -- the barriers up to phase n were open
  opened : (j : ℕ) → j ≤ n → Opened w ds j
  opened j l k i = go (ℕ_discrete k b)
    where
      go : Dec (k ≡ b) → before w j k ≤ column ds k
      go (yes e) = rw e (omega (arith, same, before-up w j n b l))
      go (no z) = omega (arith, other k z, t.state.barrier n t.phase b t.proper t.more k i, before-up w j n k l)

  previous-reachable : Reachable w (previous cs b)
  previous-reachable = record {
    size = length-set cs b (column cs b - 1) ∙ t.state.size;
    below = λ k l. omega (arith, fewer k, t.state.below k l);
    barrier = λ j l k i h. opened j (used-first w j n k (before w j k) (omega arith) (omega (arith, fewer k, t.furthest k i)));
    beyond = λ k l i. omega (arith, fewer k, t.state.beyond k l i);
  }

  turns-back : {M : Type 0} (none : A) (run : A → M → M) (m : M) → (turn none w run b (previous cs b) m).counts ≡ cs
  unfolding turn
  turns-back none run m = go (next none w b ds) (turn_is none w (omega arith) b ds)
    where
      short : column ds b < before w (suc n) b
      short = omega (arith, same, t.furthest b t.proper)

      go : (s : Said A) → Turn none w b ds s → (after run b ds m s).counts ≡ cs
      go s (does j c o h) = again
      go s (halts j c z (d, i, h)) = absurd (omega (arith, opened j (used-first w j n b (column ds b) c.used short) d i))
      go s (stops u o) = absurd (omega (arith, short, before-up w (suc n) w.phases b t.phase))

module _ {A M : Type 0} {none : A} {r : Rows A} {run : A → M → M} {Fits : M → Type 0} {step : ℕ → List ℕ → M → After A M}
    (c : Calls none r run Fits step) (m : M) (fits : Fits m) where
  abbrev Reaches : List ℕ → Type 0
  Reaches cs = (bs : List ℕ) × (counts_after step bs none_done m ≡ cs)

  -- one call more
  and_then : (cs later : List ℕ) (b : ℕ) → b < r.size → Reachable (work r) cs → Reaches cs → ((n : M) → (turn none (work r) run b cs n).counts ≡ later)
      → Reaches later
  unfolding counts_after
  and_then cs later b l t (bs, e) h =
      let n = memory_after step bs none_done m in (
        bs ++ (b ∷ []),
        counts-append step bs (b ∷ []) none_done m
            ∙ ap (λ (d : List ℕ). (step b d n).counts) e
            ∙ ap (λ (a : After A M). a.counts) (c.step-turn b cs n (started c bs m fits).fits t l)
            ∙ h n,
      )

  -- from a state with fewer steps done: the last step was of the furthest phase that anybody has come to
  module _ (cs : List ℕ) (t : Reachable (work r) cs)
      (ih : (ds : List ℕ) → Reachable (work r) ds → total 64 (column ds) < total 64 (column cs) → Reaches ds) where
    none_yet : ((k : ℕ) → k < r.size → column cs k ≤ 0) → Reaches cs
    unfolding counts_after
    none_yet h = ([], sym (ext_get_or 0 cs none_done t.size (λ i l. zeroes i (dec_lt i r.size) l ∙ sym (none_done_lem i))))
      where
        zeroes : (i : ℕ) → Dec (i < r.size) → i < length cs → get_or cs i 0 ≡ 0
        zeroes i (yes q) l = omega (arith, h i q)
        zeroes i (no q) l = t.beyond i (omega (arith, t.size)) (omega arith)

    back : (n : ℕ) → n ≤ r.phases → ((k : ℕ) → k < r.size → column cs k ≤ before (work r) n k) → Reaches cs
    back zero l all = none_yet all
    back (suc n) l all = go (some r.size (λ b. ltb (before (work r) n b) (column cs b))) refl (back n (omega arith))
      where
        go : (x : Bool) → some r.size (λ b. ltb (before (work r) n b) (column cs b)) ≡ x
            → (((k : ℕ) → k < r.size → column cs k ≤ before (work r) n k) → Reaches cs) → Reaches cs
        go true e earlier =
            let (b, i, h) = some-which r.size (λ b. ltb (before (work r) n b) (column cs b)) e in
            let q = ltb-true (before (work r) n b) (column cs b) h in
            let z : Last (work r) cs n b = record { few = c.few; state = t; phase = l; furthest = all; proper = i; more = q } in
            and_then (previous cs b) cs b i (previous-reachable z) (ih (previous cs b) (previous-reachable z) (less-total z)) (turns-back z none run)
        go false e earlier =
            earlier (λ k i. ltb-false (before (work r) n k) (column cs k) (some-each r.size k (λ b. ltb (before (work r) n b) (column cs b)) e i))

  -- numbers alone, since a sum of 64 is long to write out
  below_none : (a b : ℕ) → a < b → b ≤ 0 → ⊥
  below_none a b l h = omega arith

  below_next : (a b n : ℕ) → a < b → b ≤ suc n → a ≤ n
  below_next a b n l h = omega arith

  le_refl : (a : ℕ) → a ≤ a
  le_refl a = omega arith

  reach : (n : ℕ) (cs : List ℕ) → Reachable (work r) cs → total 64 (column cs) ≤ n → Reaches cs
  reach zero cs t l =
      back cs t (λ ds q h. absurd (below_none (total 64 (column ds)) (total 64 (column cs)) h l)) r.phases (le_refl r.phases) t.below
  reach (suc n) cs t l =
      back cs t (λ ds q h. reach n ds q (below_next (total 64 (column ds)) (total 64 (column cs)) n h l)) r.phases (le_refl r.phases) t.below

  -- every state that 15 lets in is reached by a row
  pub reached : (cs : List ℕ) → Reachable (work r) cs → (bs : List ℕ) × (counts_after step bs none_done m ≡ cs)
  reached cs t = reach (total 64 (column cs)) cs t (le_refl (total 64 (column cs)))
