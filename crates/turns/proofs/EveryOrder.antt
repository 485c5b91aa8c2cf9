-- Every order is some row's, and what a complete row performs is such an order: the orders are exactly the rows'.
use Rattle.std.specs.Prelude.{ℕ, ◌≤◌, ◌<◌, ◌≡◌, List}
use Rattle.std.proofs.Common.{arith, ap, ◌∙◌, ⊎_elim}
use Rattle.std.proofs.Math.Decide.{dec_le, dec_lt}
use mathlib.Core.List.{Memᴰ as Mem}
use Rattle.order.specs.Lists.{if_yes, before-left, before-right, before-total, before-joined, joined-before}
use Rattle.order.specs.Sequences.{Before, run_all}
use Rattle.order.specs.Machine.{InOrder}
use Rattle.order.proofs.Machine.{complete-in-order}
use Rattle.order.specs.Plain.{Covers, in-order-covers}
use Rattle.order.specs.Rows.{Rows, plan, whole, cut-before}
use Rattle.order.proofs.EveryOrder.{owners, in_order, order-trace, order-complete, order-kept}
use Rattle.turns.specs.Turn.{After}
use Rattle.turns.specs.Row.{actions_of, none_done, reports, memory_after, Complete}
use Rattle.turns.specs.Orders.{Order}
use Rattle.turns.specs.Calls.{work, Calls}
use Rattle.turns.proofs.Follows.{started}
use Rattle.turns.proofs.Complete.{plan-mem, mem-plan, row, row_is, complete-exhausts, exhausts-complete}

-- an order of the rows' lists is one of the machine's
module _ {A : Type 0} (r : Rows A) {l : List A} where
  open r use {size, phases, owner, phase, known}

  module _ (o : Order (work r) l) where
    covers : Covers (plan r) l
    covers = record { single = o.single; same = λ x. (to x, from x) }
      where
        to : (x : A) → Mem x l → Mem x ((plan r).list (owner x))
        to x m = let (n, b, i, j, h) = o.nothing-else x m in rw (known n b x i j h).0 (plan-mem r n b x i j h)

        from : (x : A) → Mem x ((plan r).list (owner x)) → Mem x l
        from x m = let (n, i, j, h) = mem-plan r (owner x) x m in o.each n (owner x) x i j h

    kept : (b : ℕ) (x y : A) → Before x y ((plan r).list b) → Before x y l
    kept b x y h =
        let (i, g) = cut-before r b x y (dec_lt b size) h in
        ⊎_elim (λ (n, j, k). o.own-order n b x y (omega arith) i k) (λ (m, n, j, k, u, v). later m n i j k u v) (before-joined (λ n. r.work n b) phases g)
      where
        later : (m n : ℕ) → b < size → m < n → n < phases → Mem x (r.work m b) → Mem y (r.work n b) → Before x y l
        later m n i j k u v =
            ⊎_elim
            (λ (e : x ≡ y). absurd (omega (arith, ap phase e, (known m b x (omega arith) i u).1, (known n b y k i v).1)))
            (⊎_elim (λ d. d) (λ d. absurd (o.by-phase m n b b y x j (omega arith) i i v u d)))
            (before-total (o.each m b x (omega arith) i u) (o.each n b y k i v))

    rises : (x y : A) → Before x y l → phase x ≤ phase y
    rises x y h = go (dec_le (phase x) (phase y))
      where
        go : Dec (phase x ≤ phase y) → phase x ≤ phase y
        go (yes e) = e
        go (no e) =
            let (n, b, i, j, u) = o.nothing-else x (before-left h) in
            let (m, a, f, g, v) = o.nothing-else y (before-right h) in
            let p : m < n = omega (arith, (known n b x i j u).1, (known m a y f g v).1) in
            absurd (o.by-phase m n a b x y p (omega arith) g j u v h)

    order-in-order : InOrder (plan r) l
    order-in-order = in_order (plan r) covers kept rises

  in-order-order : InOrder (plan r) l → Order (work r) l
  in-order-order o = record {
    each = λ n b x i j m. (c.same x).1 (rw (known n b x i j m).0 (plan-mem r n b x i j m));
    nothing-else = λ x m. let (n, i, j, h) = mem-plan r (owner x) x ((c.same x).0 m) in (n, owner x, i, j, h);
    single = c.single;
    own-order = λ n b x y i j h.
        order-kept (plan r) o b x y
        (rw (if_yes (dec_lt b size) (whole r b) _ j) (joined-before (λ n. r.work n b) phases n i h));
    by-phase = λ i j a b x y e f g h u v k. absurd (omega (arith, o.phases x y k, (known j b x f h u).1, (known i a y (omega arith) g v).1));
  }
    where
      c : Covers (plan r) l
      c = in-order-covers (plan r) o

module _ {A M : Type 0} {none : A} {r : Rows A} {run : A → M → M} {Fits : M → Type 0} {step : ℕ → List ℕ → M → After A M}
    (k : Calls none r run Fits step) (m : M) (fits : Fits m) where
  -- the row that names the processor of each action in turn performs exactly that order, and is complete
  module _ (l : List A) (o : Order (work r) l) where
    abbrev pub row_for : List ℕ
    row_for = owners (plan r) l

    pub order-performed : actions_of (reports step row_for none_done m) ≡ l
    order-performed = row_is k row_for m fits ∙ order-trace (plan r) (order-in-order r o)

    pub order-complete-row : Complete step (work r) row_for m
    order-complete-row = exhausts-complete k row_for m fits (order-complete (plan r) (order-in-order r o))

    -- it leaves what running the order leaves
    pub order-memory : memory_after step row_for none_done m ≡ run_all run l m
    order-memory = (started k row_for m fits).memory ∙ ap (λ (t : List A). run_all run t m) (order-trace (plan r) (order-in-order r o))

  -- what a complete row performs is such an order
  pub row-order : (bs : List ℕ) → Complete step (work r) bs m → Order (work r) (row k bs m fits)
  row-order bs all = rw (row_is k bs m fits) (in-order-order r (complete-in-order (plan r) bs (complete-exhausts k bs m fits all)))
