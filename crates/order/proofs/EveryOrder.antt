-- Every order is some schedule's: a list that does all of each processor's list, in its order, and phase after phase, is what the schedule
-- performs that names the processor of each of its actions in turn. And which lists those are, told by what stands before what. Assumes nothing.
use Rattle.std.specs.Prelude.{◌≡◌, refl, ◌↔◌, List, [], ◌∷◌, map, ℕ, ◌≤◌}
use Rattle.std.proofs.Common.{sym, ◌∙◌, ap, ⊎_elim, arith}
use mathlib.Core.List.Memᴰ
use mathlib.Core.List.{Memᴰ as Mem}
use Rattle.std.proofs.Math.Decide.{ℕ_discrete}
use Rattle.order.specs.Lists.{if_yes, if_no, before-left, before-right}
use Rattle.order.specs.Sequences.{Before, bhere, bthere, NoDup}
use Rattle.order.specs.Lists.{same-list, only-mem, mem-only, only-passes, only-before, before-only, mem-joined}
use Rattle.order.specs.Machine.{Plan, start, left, left_other, Open, next, bump, count, next-open, trace, final, mine, InOrder}
use Rattle.order.proofs.Machine.{left-next}
use Rattle.order.specs.Machine.{Exhausts}
use Rattle.order.specs.Plain.{Covers}

module _ {A : Type 0} (p : Plan A) where
  open p use {size, list, owner, phase, owned, once}

  -- the processors of the actions, in turn
  abbrev pub owners : List A → List ℕ
  owners = map owner

  -- from the counts c: `t` does all that is left
  record Does (c : ℕ → ℕ) (t : List A) : Type 0 where
    lists : (b : ℕ) → mine p b t ≡ left p c b
    phases : (x y : A) → Before x y t → phase x ≤ phase y

  module _ (c : ℕ → ℕ) (x : A) (t : List A) (o : Does c (x ∷ t)) where
    -- its first action is the next of its processor
    first : left p c (owner x) ≡ x ∷ mine p (owner x) t
    first = sym (o.lists (owner x)) ∙ if_yes (ℕ_discrete (owner x) (owner x)) _ _ refl

    -- and the barrier before it is open
    opened : Open p c (phase x)
    opened y m =
        let (b, l, h) = mem-joined (left p c) size m in
        let g = mem-only (λ z. ℕ_discrete (owner z) b) {x = y} (x ∷ t) (rw (o.lists b) h) in
        ⊎_elim (λ (e : y ≡ x). omega (arith, ap phase e)) (λ k. o.phases x y (bhere refl k)) (Memᴰ.cases_cons g)

    -- the others do what is left then
    others : Does (bump p c (owner x)) t
    others = record { lists = λ b. go b (ℕ_discrete b (owner x)); phases = λ y z h. o.phases y z (bthere h) }
      where
        same-tail : {y : A} {l m : List A} → ◌≡◌ {A = List A} (y ∷ l) (y ∷ m) → l ≡ m
        same-tail e = cc

        go : (b : ℕ) → Dec (b ≡ owner x) → mine p b t ≡ left p (bump p c (owner x)) b
        go b (yes e) = rw e (same-tail (sym first ∙ left-next p c (owner x) first))
        go b (no n) = sym (if_no (ℕ_discrete (owner x) b) _ _ (λ e. n (sym e))) ∙ o.lists b ∙ sym (left_other p c (owner x) b n)

    turn : next p c (left p c (owner x)) ≡ x ∷ []
    turn = ap (next p c) first ∙ next-open p c x (mine p (owner x) t) opened

  does-trace : (t : List A) (c : ℕ → ℕ) → Does c t → trace p (owners t) c ≡ t
  does-trace [] c o = refl
  does-trace (x ∷ t) c o = rw (turn c x t o) (ap (x ∷◌) (does-trace t (bump p c (owner x)) (others c x t o)))

  does-all : (t : List A) (c : ℕ → ℕ) → Does c t → (b : ℕ) → left p (final p (owners t) c) b ≡ []
  does-all [] c o b = sym (o.lists b)
  does-all (x ∷ t) c o b =
      ap (λ (l : List A). left p (final p (owners t) (count p c (owner x) l)) b) (turn c x t o) ∙ does-all t (bump p c (owner x)) (others c x t o) b

  -- so it is the order of a complete schedule
  pub order-trace : {t : List A} → InOrder p t → trace p (owners t) start ≡ t
  order-trace {t} o = does-trace t start (record { lists = o.lists; phases = o.phases })

  pub order-complete : {t : List A} → InOrder p t → Exhausts p (owners t)
  order-complete {t} o = does-all t start (record { lists = o.lists; phases = o.phases })

  -- BY WHAT STANDS BEFORE WHAT: such a list has each action once, keeps the order of each list, and has none before one of an earlier phase
  pub in_order : {t : List A} → Covers p t → ((b : ℕ) (x y : A) → Before x y (list b) → Before x y t)
      → ((x y : A) → Before x y t → phase x ≤ phase y) → InOrder p t
  in_order {t} all kept rises = record { lists = λ b. same-list (mine p b t) (list b) (own-once b) (once b) (members b) (own-kept b); phases = rises }
    where
      own-once : (b : ℕ) → NoDup (mine p b t)
      own-once b x d = all.single x (before-only (λ z. ℕ_discrete (owner z) b) t d)

      members : (b : ℕ) (x : A) → Mem x (mine p b t) ↔ Mem x (list b)
      members b x = (
        λ m.
            let h = mem-only (λ z. ℕ_discrete (owner z) b) t m in
            rw (only-passes (λ z. ℕ_discrete (owner z) b) t m) at ((all.same x).0 h),
        λ m. let e = owned b x m in only-mem (λ z. ℕ_discrete (owner z) b) t e ((all.same x).1 (rw e m)),
      )

      own-kept : (b : ℕ) (x y : A) → Before x y (list b) → Before x y (mine p b t)
      own-kept b x y h =
          only-before (λ z. ℕ_discrete (owner z) b) t (owned b x (before-left h)) (owned b y (before-right h)) (kept b x y h)

  pub order-kept : {t : List A} → InOrder p t → (b : ℕ) (x y : A) → Before x y (list b) → Before x y t
  order-kept {t} o b x y h = before-only (λ z. ℕ_discrete (owner z) b) t (rw (o.lists b) h)
