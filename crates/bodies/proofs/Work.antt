-- The items of a body, one by one: what is left to work, from what waits, gives what the whole body gives.
use Prim.Native.Nat.{ℕ, suc, ◌+◌, ◌-◌, ◌≤◌, ◌<◌}
use native.Mathlib.Numerals.{add-one}
use native.Mathlib.Omega.{arith}
use mathlib.Core.Path.{◌≡◌, refl, sym, ap, subst, ◌∙◌}
use mathlib.Core.Bool.{Bool, true, false, cond}
use mathlib.Core.List.{List, [], ◌∷◌}
use lib.Dec.{eqb, ltb}
use lib.ListN.{length, get_or}
use lib.Ieee.{Float, nan, binary64, of_int}
use lib.IntN.{pos}
use borrow.Author.Tests.{eq-eqb, ne_eqb}
use Rattle.std.proofs.lemmas.Bool.Decides.{nat_tests}
use Rattle.records.specs.declared.storage.Store.{Store}
use Rattle.records.specs.History.{operands}
use Rattle.model.specs.Table.{Item, read, constant, operation}
use Rattle.model.specs.Bodies.{negated, combined, applied, worked, worked_all, value}
use Rattle.reader.specs.Store.{row_kind, kind_at, array_at, value_at, item_of, item_at, lead_from, body_from, statements_from}
use Rattle.grounds.specs.Accepted.{Works}
use Rattle.bodies.specs.declared.Waiting.{Waiting}
use Rattle.std.specs.Prelude.{Option, None, Some}
use Rattle.bodies.specs.Stack.{tops, waiting, Holds}
use Rattle.bodies.specs.Workable.{Based, Element, ReadsWithin, Ready, next}
use Rattle.records.specs.declared.table_rows.RowKind.TheVariants as row
use Rattle.bodies.specs.Stopped.{Stepped, Opens, Stopped}

-- WHICH ITEM IT IS
item-read : (k q v : ℕ) → k ≡ 0 → item_of k q v ≡ read q v
unfolding item_of
item-read k q v e = rw e

item-constant : (k q v : ℕ) → k ≡ 2 → item_of k q v ≡ constant v
unfolding item_of
item-constant k q v e = rw e

item-operation : (k q v : ℕ) → (k ≡ 0 → ⊥) → (k ≡ 2 → ⊥) → item_of k q v ≡ operation v
unfolding item_of
item-operation k q v e f = rw (ne_eqb k 0 e, ne_eqb k 2 f)

-- OPERATIONS
pub five : (op d : ℕ) → op ≡ 5 → operands op ≤ d → (1 ≤ d) × (d - operands op + 1 ≡ d)
unfolding operands
five op d e h = let z = rw e at h in (z, rw e (omega arith))

pub other : (op d : ℕ) → (op ≡ 5 → ⊥) → operands op ≤ d → (2 ≤ d) × (d - operands op + 1 ≡ d - 1)
unfolding operands
other op d e h = let z = rw (ne_eqb op 5 e) at h in (z, rw (ne_eqb op 5 e) (omega arith))

module _ (vs : List Float) (r op d : ℕ) (w : List Float) (enough : operands op ≤ d) where
  pub applied-five : op ≡ 5 → Holds vs r (negated w) d → Holds vs r (applied op w) (d - operands op + 1)
  unfolding applied
  applied-five e h = (h.0, rw e h.1, h.2 ∙ sym (five op d e enough).1)

  pub applied-other : (op ≡ 5 → ⊥) → Holds vs r (combined op w) (d - 1) → Holds vs r (applied op w) (d - operands op + 1)
  unfolding applied
  applied-other e h = (h.0, rw (ne_eqb op 5 e) h.1, h.2 ∙ sym (other op d e enough).1)

-- ONE ITEM
module _ (bs : List ℕ) (i m : ℕ) where
  first-ready : (x : Item) (xs : List Item) (d : ℕ) → d ≤ 8 → Works (x ∷ xs) d → ReadsWithin bs i m (x ∷ xs) → Ready bs i m x d
  unfolding Ready
  first-ready (read a o) xs d h w r = (w.0, r.0)
  first-ready (constant n) xs d h w r = w.0
  first-ready (operation op) xs d h w r = (w.0, w.1, w.2, h)

  rest-works : (x : Item) (xs : List Item) (d : ℕ) → Works (x ∷ xs) d → Works xs (next x d)
  unfolding next
  rest-works (read a o) xs d w = w.1
  rest-works (constant n) xs d w = w.1
  rest-works (operation op) xs d w = w.3

  rest-reads : (x : Item) (xs : List Item) → ReadsWithin bs i m (x ∷ xs) → ReadsWithin bs i m xs
  rest-reads (read a o) xs r = r.1
  rest-reads (constant n) xs r = r
  rest-reads (operation op) xs r = r

  some : (op : ℕ) → 1 ≤ operands op
  unfolding operands
  some op = go (eqb op 5)
    where
      go : (b : Bool) → 1 ≤ cond b 1 2
      go true = omega arith
      go false = omega arith

  rest-few : (x : Item) (d : ℕ) → Ready bs i m x d → next x d ≤ 8
  unfolding next Ready
  rest-few (read a o) d r = omega (arith, r.0)
  rest-few (constant n) d r = omega arith
  rest-few (operation op) d r = omega (arith, some op, r.3)

-- WHAT IS LEFT
-- d numbers wait before the items xs; whatever the arrays' lengths, if they begin at bs, the rest gives what the whole gives from s
pub record Left (bs : List ℕ) (i : ℕ) (m : List Float) (whole : List Item) (s : List Float) (xs : List Item) (w : List Float) (d : ℕ) : Type 0 where
  pub few : d ≤ 8
  pub works : Works xs d
  pub reads : ReadsWithin bs i (length m) xs
  pub gives : (ns : List ℕ) → Based bs ns → worked_all ns i m xs w ≡ worked_all ns i m whole s

module _ (bs : List ℕ) (i : ℕ) (m : List Float) (whole : List Item) (s : List Float) where
  left-start : (d : ℕ) → d ≤ 8 → Works whole d → ReadsWithin bs i (length m) whole → Left bs i m whole s whole s d
  left-start d h w r = record { few = h; works = w; reads = r; gives = λ ns b. refl }

  module _ (x : Item) (xs : List Item) (w : List Float) (d : ℕ) (l : Left bs i m whole s (x ∷ xs) w d) where
    left-ready : Ready bs i (length m) x d
    left-ready = first-ready bs i (length m) x xs d l.few l.works l.reads

    -- after x there are more, e of them
    left-next : (v : List Float) (e : ℕ) → e ≡ next x d → ((ns : List ℕ) → Based bs ns → v ≡ worked ns i m x w) → Left bs i m whole s xs v e
    unfolding worked_all
    left-next v e f g = record {
      few = rw f (rest-few bs i (length m) x d left-ready);
      works = rw f (rest-works bs i (length m) x xs d l.works);
      reads = rest-reads bs i (length m) x xs l.reads;
      gives = λ ns b. rw (g ns b) (l.gives ns b);
    }

  -- where no item is left one value waits, and it is what the whole gives
  left_end : (w : List Float) (d : ℕ) → Left bs i m whole s [] w d → (d ≡ 1) × ((ns : List ℕ) → Based bs ns → w ≡ worked_all ns i m whole s)
  unfolding worked_all
  left_end w d l = (l.works, l.gives)

-- the items in the rows from `from` up to the first destination's or up to `past`, worked from where s waits: those before `row` are worked
module _ (bs : List ℕ) (i : ℕ) (m : List Float) (cs : Store) (from past : ℕ) (s : Waiting) where
  abbrev all : List Item
  all = lead_from cs from (past - from) []

  pub record RowsLeft (row : ℕ) (w : Waiting) : Type 0 where
    pub long : length w.values ≡ 8
    pub low : from ≤ row
    pub high : row ≤ past
    pub same : statements_from cs from (past - from) ≡ statements_from cs row (past - row)
    pub left : Left bs i m all (waiting s) (lead_from cs row (past - row) []) (waiting w) w.count

  pub rows_start : length s.values ≡ 8 → from ≤ past → s.count ≤ 8 → Works all s.count → ReadsWithin bs i (length m) all → RowsLeft from s
  rows_start k h f w r = record { long = k; low = omega arith; high = h; same = refl; left = left-start bs i m all (waiting s) s.count f w r }

  -- at the end: a destination's row, or the last
  abbrev Ended : ℕ → Waiting → Type 0
  Ended row w =
      ((w.count ≡ 1) × Stopped cs from past row) × ((ns : List ℕ) → Based bs ns → waiting w ≡ worked_all ns i m all (waiting s))

  module _ (row : ℕ) (w : Waiting) (l : RowsLeft row w) where
    ended : Opens cs row past → lead_from cs row (past - row) [] ≡ [] → Ended row w
    ended o e =
        let z =
        left_end bs i m all (waiting s) (waiting w) w.count
        (subst (λ (xs : List Item). Left bs i m all (waiting s) xs (waiting w) w.count) e l.left) in
        ((z.0, record { low = l.low; high = l.high; opens = o; same = l.same }), z.1)

    pub rows_end : past ≤ row → Ended past w
    unfolding lead_from
    rows_end h =
        let e : past - row ≡ 0 = omega arith in
        let z : row ≡ past = omega (arith, l.high) in
        subst (λ (r : ℕ). Ended r w) z (ended (λ k. absurd (omega arith)) (rw e))

    module _ (h : row < past) where
      one : past - row ≡ suc (past - (row + 1))
      one = omega arith

      -- what a row did
      abbrev Did : List Float → Option ℕ → Type 0
      Did = Stepped bs i m cs row w.values w.count

      pub rows-met : (after : List Float) (r : Option ℕ) → Did after r → r ≡ None → Ended row (record { values = after; count = w.count })
      unfolding lead_from
      rows-met after r d e =
          let z = rw e at d in
          rw z.1 (ended (λ k. z.0) (rw (one, eq-eqb (kind_at cs row) 1 z.0)))

      -- an item
      module _ (item : kind_at cs row ≡ 1 → ⊥) where
        abbrev rest : List Item
        rest = lead_from cs (row + 1) (past - (row + 1)) []

        split : lead_from cs row (past - row) [] ≡ item_at cs row ∷ rest
        unfolding lead_from
        split = rw (one, ne_eqb (kind_at cs row) 1 item, add-one row)

        begun : statements_from cs row (past - row) ≡ statements_from cs (row + 1) (past - (row + 1))
        unfolding body_from
        begun = rw (one, ne_eqb (kind_at cs row) 1 item, add-one row)

        here : Left bs i m all (waiting s) (item_at cs row ∷ rest) (waiting w) w.count
        here = subst (λ (xs : List Item). Left bs i m all (waiting s) xs (waiting w) w.count) split l.left

        pub rows-ready : Ready bs i (length m) (item_at cs row) w.count
        rows-ready = left-ready bs i m all (waiting s) (item_at cs row) rest (waiting w) w.count here

      pub rows_next : (after : List Float) (r : Option ℕ) → Did after r → (e : ℕ) → r ≡ Some e → RowsLeft (row + 1) (record { values = after; count = e })
      rows_next after r d e f =
          let z = rw f at d in
          record {
            long = z.1;
            low = omega (arith, l.low);
            high = omega arith;
            same = l.same ∙ begun z.0;
            left =
                left-next bs i m all (waiting s) (item_at cs row) (rest z.0) (waiting w) w.count (here z.0) (tops after e) e z.2 z.3;
          }

-- from where nothing waits to where one value does: it is at the bottom
pub at-bottom : (xs : List Item) (ns : List ℕ) (i : ℕ) (m : List Float) (s w : Waiting) → s.count ≡ 0 → w.count ≡ 1
    → waiting w ≡ worked_all ns i m xs (waiting s) → get_or w.values 0 nan ≡ value ns i xs m
unfolding tops value
at-bottom xs ns i m s w e f g = let z = rw (e, f) at g in ap (λ (l : List Float). get_or l 0 nan) z

-- ROW r, IN ITERATION i: the n lowest of the values vs wait
reads : (k : ℕ) → true ≡ ltb k 2 → false ≡ eqb k 1 → k ≡ 0
reads k e f = grind (arith, nat_tests)

operations : (k : ℕ) → row.Operation ≡ row_kind k → 2 < k
operations k e = grind (arith, nat_tests)

pub constants : (k : ℕ) → false ≡ ltb k 2 → (row_kind k ≡ row.Operation → ⊥) → k ≡ 2
constants k e f = grind (arith, nat_tests)

module _ (bs : List ℕ) (i : ℕ) (m : List Float) (c : Store) (r : ℕ) (vs : List Float) (n : ℕ) (ready : (kind_at c r ≡ 1 → ⊥) → Ready bs i (length m) (item_at c r) n) where
  abbrev After : List Float → Option ℕ → Type 0
  After = Stepped bs i m c r vs n

  abbrev q : ℕ
  q = array_at c r

  abbrev v : ℕ
  v = value_at c r

  module _ (reference : true ≡ ltb (kind_at c r) 2) (other : false ≡ eqb (kind_at c r) 1) where
    is-read : item_at c r ≡ read q v
    is-read = item-read (kind_at c r) q v (reads (kind_at c r) reference other)

    no-destination : kind_at c r ≡ 1 → ⊥
    no-destination e = omega (arith, reads (kind_at c r) reference other)

    pub read-asks : (n < 8) × Element bs i (length m) q v
    unfolding Ready
    read-asks = rw is-read at (ready no-destination)

    pub read-works : (x : Float) (after : List Float) (e : ℕ) → x ≡ get_or m (get_or bs q 0 + (i + v - 255)) nan
        → Holds after e (x ∷ tops vs n) (n + 1) → After after (Some e)
    unfolding next worked
    read-works x after e f g =
        rw is-read (no-destination, g.0, g.2, λ ns b. rw (g.1, f, b q (omega (arith, read-asks.1.0))))

  module _ (kind : kind_at c r ≡ 2) where
    is-constant : item_at c r ≡ constant v
    is-constant = item-constant (kind_at c r) q v kind

    none : kind_at c r ≡ 1 → ⊥
    none e = omega (arith, kind)

    pub constant-asks : n < 8
    unfolding Ready
    constant-asks = rw is-constant at (ready none)

    pub constant-works : (x : Float) (after : List Float) (e : ℕ) → x ≡ of_int binary64 (pos v) → Holds after e (x ∷ tops vs n) (n + 1)
        → After after (Some e)
    unfolding next worked
    constant-works x after e f g = rw is-constant (none, g.0, g.2, λ ns b. rw (g.1, f))

  module _ (kind : row.Operation ≡ row_kind (kind_at c r)) where
    late : 2 < kind_at c r
    late = operations (kind_at c r) kind

    is : item_of (kind_at c r) q v ≡ operation v
    is = item-operation (kind_at c r) q v (λ e. omega (arith, late)) (λ e. omega (arith, late))

    pub operation-asks : (operands v ≤ n) × (n ≤ 8)
    unfolding Ready
    operation-asks = let z = rw is at (ready (λ e. omega (arith, late))) in (z.2, z.3)

    pub operation-works : (after : List Float) (e : ℕ) → Holds after e (applied v (tops vs n)) (n - operands v + 1) → After after (Some e)
    unfolding next worked
    operation-works after e g = rw is ((λ e. omega (arith, late)), g.0, g.2, λ ns b. g.1)
