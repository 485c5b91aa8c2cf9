-- Laws of the machine: what it has done and what is left are all the actions, each list in its order, and phase after phase. Assumes nothing.
use Rattle.std.specs.Prelude.{◌≡◌, refl, List, [], ◌∷◌, ◌++◌, ℕ, zero, suc, ◌≤◌, drop}
use Rattle.std.proofs.Common.{sym, ◌∙◌, ap, inl, inr, ⊎_elim, append-nil, arith}
use mathlib.Core.List.Memᴰ
use mathlib.Core.List.Memᴰ.{head as mhere}
use mathlib.Core.List.Memᴰ.{tail as mthere}
use mathlib.Core.List.{Memᴰ as Mem}
use Rattle.std.proofs.Math.Decide.{ℕ_discrete}
use Rattle.order.specs.Lists.{drop-mem, if, put_same, Perm, pcons, pick_up, perm-refl, perm-mem}
use Rattle.order.specs.Lists.{Tested}
use Rattle.order.specs.Sequences.{Before, bhere, bthere}
use Rattle.order.specs.Machine.{Plan, start, left, left_other, rest, rest-next, Late, open?, next, bump, count, trace, final}
use Rattle.order.specs.Machine.{Run, stop, step, mine, InOrder, Exhausts}

module _ {A : Type 0} (p : Plan A) where
  open p use {list, owner, phase, owned}

  -- a turn takes the first of a list
  drop-suc : {x : A} {r : List A} (n : ℕ) (l : List A) → drop n l ≡ x ∷ r → drop (suc n) l ≡ r
  drop-suc zero [] e = cc
  drop-suc zero (y ∷ l) e = cc
  drop-suc (suc n) [] e = cc
  drop-suc (suc n) (y ∷ l) e = drop-suc n l e

  bump-same : (c : ℕ → ℕ) (b : ℕ) → bump p c b b ≡ suc (c b)
  bump-same c b = put_same c b _

  pub left-next : (c : ℕ → ℕ) (b : ℕ) {x : A} {l : List A} → left p c b ≡ x ∷ l → left p c b ≡ x ∷ left p (bump p c b) b
  left-next c b {x} e = e ∙ ap (x ∷◌) (sym (ap (λ (n : ℕ). drop n (list b)) (bump-same c b) ∙ drop-suc (c b) (list b) e))

  pub runs : (bs : List ℕ) (c : ℕ → ℕ) → Run p c (trace p bs c) (final p bs c)
  runs [] c = stop
  runs (b ∷ bs) c = go (left p c b) refl (runs bs)
    where
      Goal : List A → Type 0
      Goal t = Run p c (t ++ trace p bs (count p c b t)) (final p bs (count p c b t))

      go : (l : List A) → left p c b ≡ l → ((c : ℕ → ℕ) → Run p c (trace p bs c) (final p bs c)) → Goal (next p c l)
      go [] e ih = ih c
      go (x ∷ l) e ih = at (open? p c (phase x))
        where
          at : (o : Tested (Late p (phase x)) (rest p c)) → Goal (⊎_elim (λ o. x ∷ []) (λ o. []) o)
          at (inl o) = step b (left-next c b e) o (ih (bump p c b))
          at (inr o) = ih c

  -- what has been done, and then what is left, are all the actions in some order
  pub run-perm : {c d : ℕ → ℕ} {t : List A} → Run p c t d → Perm (t ++ rest p d) (rest p c)
  run-perm (stop {c}) = perm-refl (rest p c)
  run-perm (step {c} b e o r) = pcons (rest-next p c b e) (run-perm r)

  pub run-mine : {c d : ℕ → ℕ} {t : List A} → Run p c t d → (k : ℕ) → mine p k t ++ left p d k ≡ left p c k
  run-mine stop k = refl
  run-mine {d} (step {c} {x} {t} b e o r) k = go (ℕ_discrete (owner x) k) (run-mine r k)
    where
      own : owner x ≡ b
      own = owned b x (drop-mem (c b) (list b) (rw e (mhere refl)))

      go : (h : Dec (owner x ≡ k)) → mine p k t ++ left p d k ≡ left p (bump p c b) k → if h (x ∷ mine p k t) (mine p k t) ++ left p d k ≡ left p c k
      go (yes h) ih = ap (x ∷◌) ih ∙ rw (sym h ∙ own) (sym e)
      go (no h) ih = ih ∙ left_other p c b k (λ q. h (own ∙ sym q))

  -- no action is done before one of an earlier phase
  pub run-rises : {c d : ℕ → ℕ} {t : List A} → Run p c t d → (x y : A) → Before x y t → phase x ≤ phase y
  run-rises (stop {c = c}) x y x10 = elim x10 [ ]
  run-rises {d} (step {c} b e o r) x y (bhere f h) =
      omega (arith, ap phase f, o y (pick_up (rest-next p c b e) (perm-mem (run-perm r) (Memᴰ.append_left (rest p d) h))))
  run-rises (step b e o r) x y (bthere h) = run-rises r x y h

  pub run-ahead : {c d : ℕ → ℕ} {t : List A} → Run p c t d → (x y : A) → Mem x t → Mem y (rest p d) → phase x ≤ phase y
  run-ahead (stop {c = c}) x y x14 h = elim x14 [ ]
  run-ahead (step {c} {t} b e o r) x y (mhere f) h =
      omega (arith, ap phase f, o y (pick_up (rest-next p c b e) (perm-mem (run-perm r) (Memᴰ.append_right t h))))
  run-ahead (step b e o r) x y (mthere m) h = run-ahead r x y m h

  pub complete-in-order : (bs : List ℕ) → Exhausts p bs → InOrder p (trace p bs start)
  complete-in-order bs h =
      record { lists = λ b. rw (h b, append-nil) at (run-mine (runs bs start) b); phases = run-rises (runs bs start) }
