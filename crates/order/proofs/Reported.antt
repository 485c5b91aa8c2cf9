-- What a row of turns reports, for any plan: each action once, each processor's in the order of its list, none before one of an earlier
-- phase; and a row that has reported every action is complete. Assumes nothing.
use Rattle.std.specs.Prelude.{◌≡◌, refl, ◌⊎◌, List, [], ◌∷◌, ◌++◌, ℕ, ◌<◌}
use Rattle.std.proofs.Common.{ap, inl, inr, ⊎_elim, arith}
use mathlib.Core.List.Memᴰ
use mathlib.Core.List.Memᴰ.{head as mhere}
use mathlib.Core.List.{Memᴰ as Mem}
use Rattle.std.proofs.Math.Decide.{ℕ_discrete}
use Rattle.order.specs.Sequences.{Before, NoDup}
use Rattle.order.specs.Lists.{before-total, before-append-left, before-across, only-mem, mem-only, only-before}
use Rattle.order.specs.Machine.{Plan, trace, final, start, left, left-rest, mine, Exhausts}
use Rattle.order.proofs.Machine.{runs, run-mine, run-rises, run-ahead}

module _ {A : Type 0} (p : Plan A) (bs : List ℕ) where
  -- the row's actions, and what processor b has left then
  abbrev pub reports : List A
  reports = trace p bs start

  abbrev pub remains : ℕ → List A
  remains = left p (final p bs start)

  -- each processor keeps its own list's order: what it has done, and then what it has left, is its list
  pub own-order : (b : ℕ) → mine p b reports ++ remains b ≡ p.list b
  own-order b = run-mine p (runs p bs start) b

  pub reports-once : NoDup reports
  reports-once x d =
      p.once (p.owner x) x
      (rw (own-order (p.owner x)) at
      (before-append-left (remains (p.owner x)) (only-before (λ y. ℕ_discrete (p.owner y) (p.owner x)) reports refl refl d)))

  -- an action of a list is done or left
  pub done-or-left : (b : ℕ) (x : A) → Mem x (p.list b) → Mem x reports ⊎ Mem x (remains b)
  done-or-left b x m =
      ⊎_elim (λ h. inl (mem-only (λ y. ℕ_discrete (p.owner y) b) reports h)) inr
      (Memᴰ.append_cases (mine p b reports) (rw (← (own-order b)) at m))

  -- the barrier: an action is done only after every action of an earlier phase
  pub after-earlier : (b : ℕ) (x y : A) → Mem y (p.list b) → p.phase y < p.phase x → Mem x reports → Before y x reports
  after-earlier b x y m l h =
      ⊎_elim done (λ r. absurd (omega (arith, run-ahead p (runs p bs start) x y h (left-rest p (final p bs start) b r)))) (done-or-left b y m)
    where
      done : Mem y reports → Before y x reports
      done g =
          ⊎_elim (λ (e : y ≡ x). absurd (omega (arith, ap p.phase e)))
          (⊎_elim (λ d. d) (λ d. absurd (omega (arith, run-rises p (runs p bs start) x y d))))
          (before-total g h)

  pub reported-complete : ((b : ℕ) (x : A) → Mem x (p.list b) → Mem x reports) → Exhausts p bs
  reported-complete all b = go (remains b) (own-order b)
    where
      go : (l : List A) → mine p b reports ++ l ≡ p.list b → l ≡ []
      go [] e = refl
      go (y ∷ l) e =
          let m : Mem y (p.list b) = rw (← e) (Memᴰ.append_right (mine p b reports) (mhere refl)) in
          let n : Mem y (mine p b reports) = only-mem (λ x. ℕ_discrete (p.owner x) b) reports (p.owned b y m) (all b y m) in
          absurd (p.once b y (rw (← e) (before-across n (mhere refl))))

  pub complete-reported : Exhausts p bs → (b : ℕ) (x : A) → Mem x (p.list b) → Mem x reports
  complete-reported done b x m = ⊎_elim (λ h. h) (λ h. absurd (Memᴰ.not-nil (rw (done b) at h))) (done-or-left b x m)
