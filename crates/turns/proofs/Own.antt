-- Each processor keeps its own lists' order: the calls that name it have performed, in order, the first of its lists, as many as its count
-- says. Of every row, complete or not.
use Rattle.std.specs.Prelude.{ℕ, suc, ◌-◌, ◌<◌, ◌≡◌, ◌≢◌}
use Rattle.std.proofs.Common.{arith, subst, ◌∙◌, eq-eqb, ne_eqb, drop-cons}
use Rattle.std.proofs.Math.Decide.{ℕ_discrete}
use Rattle.std.proofs.Math.Path.{refl, sym, ap}
use mathlib.Core.List.{List, [], ◌∷◌, ◌++◌, append_assoc}
use Rattle.std.proofs.Math.ListN.{get_or, drop}
use Rattle.order.specs.Lists.{put_other}
use Rattle.order.specs.Machine.{count}
use Rattle.order.specs.Rows.{Rows, plan}
use Rattle.blocks.specs.Sums.{column}
use Rattle.turns.specs.Turn.{Said, After, own, before, next, after, turn}
use Rattle.turns.specs.Row.{action_in, actions_of, none_done, counts_after, reports_to}
use Rattle.turns.specs.RowLaws.{none_done_lem}
use Rattle.turns.proofs.Reach.{none-reachable, counted_same, Turn, does, halts, stops, turn_is}
use Rattle.turns.specs.Reachable.{Reachable}
use Rattle.turns.proofs.Meaning.{own-more, own-nth}
use Rattle.turns.specs.Calls.{work, Calls}
use Rattle.turns.proofs.Follows.{called}

module _ {A M : Type 0} {none : A} {r : Rows A} {run : A → M → M} {Fits : M → Type 0} {step : ℕ → List ℕ → M → After A M}
    (k : Calls none r run Fits step) (d : ℕ) (proper : d < r.size) where
  abbrev mine : List A
  mine = own (work r) d

  -- its own call takes the first that it has left
  taken : (cs : List ℕ) (m : M) → Reachable (work r) cs
      → action_in (turn none (work r) run d cs m).said ++ drop (column (turn none (work r) run d cs m).counts d) mine ≡ drop (column cs d) mine
  unfolding turn
  taken cs m t = go (next none (work r) d cs) (turn_is none (work r) k.some-phase d cs)
    where
      go : (s : Said A) → Turn none (work r) d cs s
          → action_in (after run d cs m s).said ++ drop (column (after run d cs m s).counts d) mine ≡ drop (column cs d) mine
      go s (does n c o h) =
          let x = get_or (r.work n d) (column cs d - before (work r) n d) none in
          ap (λ (n : ℕ). x ∷ drop n mine) (counted_same cs d (omega arith))
          ∙ ap (λ (y : A). y ∷ drop (suc (column cs d)) mine) (sym (own-nth c h none))
          ∙ sym (drop-cons mine (column cs d) none (own-more c h))
      go s (halts n c z h) = refl
      go s (stops u o) = refl

  -- and no other call touches its count
  untouched : (b : ℕ) → d ≢ b → (c : ℕ → ℕ) (l : List A) → count (plan r) c b l d ≡ c d
  untouched b n c [] = refl
  untouched b n c (x ∷ l) = put_other c b d (suc (c b)) n

  goes_on_lem : (bs cs : List ℕ) (m : M) → Fits m → Reachable (work r) cs
      → actions_of (reports_to step d bs cs m) ++ drop (column (counts_after step bs cs m) d) mine ≡ drop (column cs d) mine
  unfolding reports_to counts_after
  goes_on_lem [] cs m f t = refl
  goes_on_lem (b ∷ bs) cs m f t =
      let c = called k b cs m f t in
      go (ℕ_discrete b d) c.counts (goes_on_lem bs a.counts a.memory c.fits c.reachable)
    where
      a : After A M
      a = step b cs m

      others : List A
      others = actions_of (reports_to step d bs a.counts a.memory)

      past : List A
      past = drop (column (counts_after step bs a.counts a.memory) d) mine

      go : Dec (b ≡ d) → column a.counts ≡ count (plan r) (column cs) b (action_in a.said) → others ++ past ≡ drop (column a.counts d) mine
          → actions_of (reports_to step d (b ∷ bs) cs m) ++ drop (column (counts_after step (b ∷ bs) cs m) d) mine ≡ drop (column cs d) mine
      go (yes q) c ih =
          let own = subst (λ (x : After A M). action_in x.said ++ drop (column x.counts d) mine ≡ drop (column cs d) mine)
          (sym (ap (λ (j : ℕ). step j cs m) q ∙ k.step-turn d cs m f t proper)) (taken cs m t) in
          rw (eq-eqb b d q) (append_assoc (action_in a.said) others past ∙ ap (λ (l : List A). action_in a.said ++ l) ih ∙ own)
      go (no q) c ih =
          rw (ne_eqb b d q)
          (ih ∙ ap (λ (n : ℕ). drop n mine) (ap (λ (g : ℕ → ℕ). g d) c ∙ untouched b (λ z. q (sym z)) (column cs) (action_in a.said)))

  pub own-calls : (bs : List ℕ) (m : M) → Fits m
      → actions_of (reports_to step d bs none_done m) ++ drop (column (counts_after step bs none_done m) d) (own (work r) d) ≡ own (work r) d
  own-calls bs m f = goes_on_lem bs none_done m f (none-reachable (work r)) ∙ ap (λ (n : ℕ). drop n mine) (none_done_lem d)
