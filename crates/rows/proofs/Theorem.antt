-- Demand 3 over the definitions. Take a table that grounds 5, 7 and 9 do not refuse, shifts and peels that keep every dependence, and
-- blocks with the gaps. Every complete schedule of their lists leaves the memory that the plain run leaves. Assumes nothing.
use Rattle.std.specs.Prelude.{◌≡◌, ◌≢◌, ◌↔◌, List, ℕ, zero, suc, ◌+◌, ◌≤◌, ◌<◌, Float}
use Rattle.std.proofs.Common.{sym, ◌∙◌, inl, inr, ⊎_elim, arith}
use mathlib.Core.List.{Memᴰ as Mem}
use Rattle.std.proofs.Math.Decide.{dec_le, dec_lt}
use Rattle.order.specs.Sequences.{Before, run_all}
use Rattle.order.specs.Lists.{before-left, before-right}
use Rattle.order.specs.Reorder.{Commute}
use Rattle.order.specs.Machine.{Exhausts, trace, start}
use Rattle.order.specs.Rows.{Ordered, plan}
use Rattle.order.proofs.Rows.{any-schedule-by-keys}
use Rattle.model.specs.declared.Iteration.{Iteration}
use Rattle.model.specs.declared.Reference.{Reference}
use Rattle.model.specs.Table.{Table, count, first, last, Inside}
use Rattle.model.specs.Bodies.{run}
use Rattle.model.specs.PlainRun.{plain_run}
use Rattle.model.specs.Sound.{Sound}
use Rattle.model.proofs.Commute.{Clash, commutes}
use Rattle.blocks.specs.Index.{same-part}
use Rattle.lists.proofs.Order.{Less, less-key}
use Rattle.lists.specs.Fusion.{Fusion, phases, work}
use Rattle.lists.specs.Wide.{Wide}
use Rattle.lists.proofs.FusionLaws.{owner, phase, key, rank, past_all, index_below, rows, once}
use Rattle.rows.specs.PlainOrder.{plain, plain-mem, plain-before, plain-once, plain-run}
use Rattle.rows.specs.Legal.{Depends, NoneMissed, Legal}
use Rattle.rows.specs.Contained.{contained}

-- two iterations clash, if the table has them
abbrev pub Dependent : Table → Iteration → Iteration → Type 0
Dependent t x y = Inside t x → Inside t y → Clash t x y

pub inside? : (t : Table) (x : Iteration) → Dec (Inside t x)
inside? t x = go (dec_lt x.number (count t)) (dec_le (first t x.number) x.index) (dec_le x.index (last t x.number))
  where
    go : Dec (x.number < count t) → Dec (first t x.number ≤ x.index) → Dec (x.index ≤ last t x.number) → Dec (Inside t x)
    go (yes p) (yes q) (yes r) = yes (p, q, r)
    go (yes p) (yes q) (no r) = no (λ h. r h.2)
    go (yes p) (no q) r = no (λ h. q h.1)
    go (no p) q r = no (λ h. p h.0)

-- the lists have every iteration of the plain order, each in the list of its phase and its processor
module _ (t : Table) (c : Fusion) (wide : Wide t c) where
  pub in-one-list : (x : Iteration) → Mem x (plain t)
      ↔ ((owner t c x < c.processors) × (phase t c x < phases t c) × Mem x (work t c (phase t c x) (owner t c x)))
  in-one-list x = (
    λ m. (once t c wide).listed x ((plain-mem t x).0 m),
    λ (l, i, m). (plain-mem t x).1 ((once t c wide).alone (phase t c x) (owner t c x) x i l m).0,
  )

-- DEMAND 3
module _ (t : Table) (sound : Sound t) (Counts : Reference → Reference → Type 0) (none-missed : NoneMissed Counts t)
    (c : Fusion) (legal : Legal Counts t c) (wide : Wide t c) where
  open c use {shift, peel, processors, edge}

  -- in one part the earlier iteration comes first
  key-less : (x y : Iteration) → Inside t x → x.number < y.number → x.index + shift x.number ≤ y.index + shift y.number
      → phase t c x ≡ phase t c y → key t c x < key t c y
  key-less x y i l h e = rw e (at (phase t c y))
    where
      sums : Dec (x.index + shift x.number < y.index + shift y.number)
          → Less (x.index + shift x.number) x.number (y.index + shift y.number) y.number
      sums (yes k) = inl k
      sums (no k) = inr (omega arith, l)

      at : (n : ℕ) → rank t c n x < rank t c n y
      at zero =
          less-key (count t) (x.index + shift x.number) x.number (y.index + shift y.number) y.number i.0
          (sums (dec_lt (x.index + shift x.number) (y.index + shift y.number)))
      at (suc n) = less-key (past_all t c) x.number x.index y.number y.index (index_below t c x i) (inl l)

  -- two iterations of one loop share nothing
  alone : (x y : Iteration) → Inside t x → Inside t y → x.number ≡ y.number → x.index ≢ y.index → Clash t x y → ⊥
  alone x y m n e f (r, q, i, j, g) = sound.parallel x.number x.index y.index r q m (rw e n) f i (rw e j) g

  -- iterations of two loops that clash keep their order
  across : (x y : Iteration) → Inside t x → Inside t y → x.number < y.number → Clash t x y → Ordered (rows t c wide) x y
  across x y m n l (r, q, i, j, g) =
      let d : Depends Counts t x.number y.number r q =
      record { earlier = l; there = n.0; left = i; right = j; counts = none-missed x y r q m n l i j g } in
      let h = contained Counts t c legal x y r q d g in
      ⊎_elim inl (λ (o, e). inr (o, e, key-less x y m l h.up e))
      (same-part processors edge (shift x.number) (peel x.number) x.index (shift y.number) (peel y.number) y.index
      (wide.gaps x.number m.0) (wide.gaps y.number n.0) h)

  pub ordered : (x y : Iteration) → Dependent t x y → Before x y (plain t) → Ordered (rows t c wide) x y
  ordered x y d b =
      ⊎_elim (λ l. across x y m n l (d m n)) (λ (e, l). absurd (alone x y m n e (λ f. omega arith) (d m n))) (plain-before t x y b)
    where
      m : Inside t x
      m = (plain-mem t x).0 (before-left b)

      n : Inside t y
      n = (plain-mem t y).0 (before-right b)

  commute : (x y : Iteration) → (Dependent t x y → ⊥) → Commute (run t) x y
  commute x y free = go (inside? t x) (inside? t y)
    where
      go : Dec (Inside t x) → Dec (Inside t y) → Commute (run t) x y
      go (yes m) (yes n) = commutes t sound x y m n (λ h. free (λ i j. h))
      go (yes m) (no n) = absurd (free (λ i j. absurd (n j)))
      go (no m) n = absurd (free (λ i j. absurd (m i)))

  -- every complete schedule leaves the memory of the plain run, from the same start
  pub any-schedule : (bs : List ℕ) → Exhausts (plan (rows t c wide)) bs → (m : List Float)
      → run_all (run t) (trace (plan (rows t c wide)) bs start) m ≡ plain_run t m
  any-schedule bs whole m =
      any-schedule-by-keys (rows t c wide) (plain t) (plain-once t) (in-one-list t c wide) (Dependent t) ordered (run t) commute bs whole m
      ∙ sym (plain-run t m)
