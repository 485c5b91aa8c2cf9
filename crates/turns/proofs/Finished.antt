-- All are finished after a complete row, and only then: each processor's next call says so.
use Rattle.std.specs.Prelude.{ℕ, zero, suc, ◌≤◌, ◌<◌, ◌≡◌, refl, List, [], ◌∷◌, length, drop}
use Rattle.std.proofs.Common.{arith, sym, ap, ◌∙◌}
use Rattle.std.proofs.Math.Decide.{dec_lt}
use Rattle.std.proofs.Math.Seq.{drop-nil}
use Rattle.order.specs.Lists.{if_yes}
use Rattle.order.specs.Machine.{left, final, start}
use Rattle.order.specs.Rows.{Rows, plan, whole}
use Rattle.blocks.specs.Sums.{column}
use Rattle.turns.specs.Turn.{Work, Said, ends, After, before, next}
use Rattle.turns.specs.Row.{none_done, counts_after, memory_after, Complete}
use Rattle.turns.proofs.Reach.{before-up, Turn, does, halts, stops, turn_is}
use Rattle.turns.proofs.Meaning.{own-length, turn-said, ends-says}
use Rattle.turns.proofs.Machine.{drop_all}
use Rattle.turns.specs.Calls.{work, Calls}
use Rattle.turns.proofs.Follows.{started}
use Rattle.turns.proofs.Complete.{complete-exhausts, exhausts-complete}

drop-none : {A : Type 0} (n : ℕ) (l : List A) → drop n l ≡ [] → length l ≤ n
drop-none n [] e = omega arith
drop-none zero (x ∷ l) e = let z : suc (length l) ≡ 0 = ap length e in omega arith
drop-none (suc n) (x ∷ l) e = omega (arith, drop-none n l e)

-- where all lists are used up, a turn ends
pub all-used-ends : {A : Type 0} (none : A) (w : Work A) → 0 < w.phases → (cs : List ℕ)
    → ((d : ℕ) → d < w.processors → before w w.phases d ≤ column cs d) → (b : ℕ) → b < w.processors → next none w b cs ≡ ends
all-used-ends {A} none w some-phase cs used b proper = go (turn_is none w some-phase b cs)
  where
    go : {s : Said A} → Turn none w b cs s → s ≡ ends
    go (does n c o h) = absurd (omega (arith, used b proper, before-up w (suc n) w.phases b c.proper))
    go (halts n c z (d, l, h)) = absurd (omega (arith, used d l, before-up w n w.phases d (omega (arith, c.proper))))
    go (stops u o) = refl

module _ {A M : Type 0} {none : A} {r : Rows A} {run : A → M → M} {Fits : M → Type 0} {step : ℕ → List ℕ → M → After A M}
    (k : Calls none r run Fits step) (bs : List ℕ) (m : M) (fits : Fits m) where
  abbrev counts : List ℕ
  counts = counts_after step bs none_done m

  abbrev memory : M
  memory = memory_after step bs none_done m

  -- what a processor's next call says
  abbrev pub NextEnds : ℕ → Type 0
  NextEnds b = (step b (counts_after step bs none_done m) (memory_after step bs none_done m)).said ≡ ends

  -- what the machine has left is what the counts leave of the lists
  left_is : (b : ℕ) → b < r.size → left (plan r) (final (plan r) bs start) b ≡ drop (column counts b) (whole r b)
  left_is b l =
      ap (λ (c : ℕ → ℕ). left (plan r) c b) (sym (started k bs m fits).counts) ∙ ap (drop (column counts b)) (if_yes (dec_lt b r.size) (whole r b) [] l)

  next-said : (b : ℕ) → b < r.size → (step b counts memory).said ≡ next none (work r) b counts
  next-said b l =
      let f = started k bs m fits in
      ap (λ (a : After A M). a.said) (k.step-turn b counts memory f.fits f.reachable l) ∙ turn-said none (work r) run b counts memory

  pub complete-finished : Complete step (work r) bs m → (b : ℕ) → b < r.size → NextEnds b
  complete-finished all b l = next-said b l ∙ all-used-ends none (work r) k.some-phase counts used b l
    where
      used : (d : ℕ) → d < r.size → before (work r) r.phases d ≤ column counts d
      used d i =
          omega
          (arith, own-length (work r) d r.phases, drop-none (column counts d) (whole r d) (sym (left_is d i) ∙ complete-exhausts k bs m fits all d))

  pub finished-complete : ((b : ℕ) → b < r.size → NextEnds b) → Complete step (work r) bs m
  finished-complete all = exhausts-complete k bs m fits (λ b. go b (dec_lt b r.size))
    where
      go : (b : ℕ) → Dec (b < r.size) → left (plan r) (final (plan r) bs start) b ≡ []
      go b (yes l) =
          let (u, o) = ends-says none (work r) k.some-phase b counts (sym (next-said b l) ∙ all b l) in
          left_is b l ∙ drop_all (column counts b) (whole r b) (omega (arith, own-length (work r) b r.phases))
      go b (no l) = ap (drop (final (plan r) bs start b)) ((plan r).beyond b (omega arith)) ∙ drop-nil (final (plan r) bs start b)
