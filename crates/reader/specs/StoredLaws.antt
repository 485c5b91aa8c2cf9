-- The store holds what was read: before the first record, after each that meets no ground, and at the end.
use Prim.Native.Nat.{ℕ, zero, suc, ◌+◌, ◌-◌, ◌≤◌, ◌<◌}
use native.Mathlib.Omega.{arith}
use Rattle.std.proofs.Math.Decide.{ℕ_discrete}
use Rattle.std.proofs.Math.Nat.{mod-eq_of_lt}
use Rattle.std.proofs.Math.Numerals.{add-one}
use Rattle.std.specs.Prelude.{◌≡◌, set}
use Rattle.std.proofs.Math.Path.{refl, sym, ap, subst}
use Rattle.std.proofs.Common.{◌∙◌, eq-eqb, ne_eqb}
use mathlib.Core.List.{List, [], ◌∷◌, ◌++◌}
use Rattle.std.proofs.Math.ListN.{length, get_or, length-set}
use Rattle.std.proofs.Math.Seq.{take-suc, take-set-le, get_or-set_same}
use Rattle.records.specs.declared.Record.{Record}
use Rattle.records.specs.declared.Record.TheVariants as rec
use Rattle.records.specs.declared.Summary.{Summary}
use Rattle.records.specs.History.{summary, lengths, advanced, blank, with_array, with_loop, with_item, with_statement}
use Rattle.records.specs.Clear.{Clear}
use Rattle.model.specs.Table.{Item, read, constant, operation, Statement, Loop}
use Rattle.reader.specs.Reading.{loops_of}
use Rattle.records.specs.declared.table_rows.Row.{Row as StoreRow}
use Rattle.records.specs.declared.table_rows.RowKind.{RowKind}
use Rattle.records.specs.declared.table_rows.RowKind.TheVariants as row
use Rattle.records.specs.declared.storage.Store.{Store}
use Rattle.records.specs.NoRow.{no_row}
use Rattle.reader.specs.Store.{row_at, first_at, last_at, start_at, kind_at, array_at, value_at, kind_number, arrays_in, loops_in, table_at, table_in, item_of}
use Rattle.reader.specs.Store.{item_at, lead_from, body_from, loop_at, loops_from, with_length, row_of, with_row, with_bounds, with_counts, kept, rows_after}
use Rattle.reader.specs.Store.{ArrayFits}
use Rattle.reader.specs.StoreLaws.{row-lengths, row-firsts, row-lasts, row-starts, row-others, row-put, row-start}
use Rattle.reader.specs.StoreLaws.{bounds-leave, bounds-firsts, bounds-lasts, bounds-first, bounds-last}
use Rattle.reader.specs.Stored.{Row, InPlace, Holds, loop_with, shown, Stored}

-- THE STATEMENTS AND LOOPS OF A STORE, n rows and m more
module _ (c : Store) (m : ℕ) (xs : List Item) (ss : List Statement) where
  lead-append : (r n : ℕ) → lead_from c r (n + m) xs ≡ lead_from c r n (lead_from c (r + n) m xs)
  unfolding lead_from
  lead-append r zero = let z : 0 + m ≡ m = omega arith in let e : r ≡ r + 0 = omega arith in rw (z, ← e)
  lead-append r (suc n) =
      let z : suc n + m ≡ suc (n + m) = omega arith in
      let e : suc r + n ≡ r + suc n = omega arith in
      rw (z, ← e, lead-append (suc r) n)

  body-append : (r n : ℕ) → body_from c r (n + m) xs ss ≡ body_from c r n (lead_from c (r + n) m xs) (body_from c (r + n) m xs ss)
  unfolding body_from
  body-append r zero = let z : 0 + m ≡ m = omega arith in let e : r ≡ r + 0 = omega arith in rw (z, ← e)
  body-append r (suc n) =
      let z : suc n + m ≡ suc (n + m) = omega arith in
      let e : suc r + n ≡ r + suc n = omega arith in
      rw (z, ← e, lead-append (suc r) n, body-append (suc r) n)

loops-snoc : (c : Store) (k n : ℕ) → loops_from c k (suc n) ≡ loops_from c k n ++ (loop_at c (k + n) ∷ [])
unfolding loops_from
loops-snoc c k zero = let e : k ≡ k + 0 = omega arith in ap (λ (j : ℕ). loop_at c j ∷ []) e
loops-snoc c k (suc n) =
    let e : suc k + n ≡ k + suc n = omega arith in
    ap (λ (l : List Loop). loop_at c k ∷ l) (loops-snoc c (suc k) n ∙ ap (λ (j : ℕ). loops_from c (suc k) n ++ (loop_at c j ∷ [])) e)

-- two stores that agree in the first n loops and the rows before `past`
record Agree (c d : Store) (n past : ℕ) : Type 0 where
  firsts : (k : ℕ) → k < n → first_at c k ≡ first_at d k
  lasts : (k : ℕ) → k < n → last_at c k ≡ last_at d k
  starts : (k : ℕ) → k ≤ n → start_at c k ≡ start_at d k
  inside : (k : ℕ) → k < n → start_at c k < past
  within : (k : ℕ) → k ≤ n → start_at c k ≤ past
  kinds : (r : ℕ) → r < past → kind_at c r ≡ kind_at d r
  arrays : (r : ℕ) → r < past → array_at c r ≡ array_at d r
  values : (r : ℕ) → r < past → value_at c r ≡ value_at d r

module _ (c d : Store) (m past : ℕ) (a : Agree c d m past) where
  lead-agree : (xs : List Item) (r n : ℕ) → r + n ≤ past → lead_from c r n xs ≡ lead_from d r n xs
  unfolding lead_from
  lead-agree xs r zero h = refl
  lead-agree xs r (suc n) h =
      rw (a.kinds r (omega arith), a.arrays r (omega arith), a.values r (omega arith), lead-agree xs (suc r) n (omega arith))

  body-agree : (xs : List Item) (ss : List Statement) (r n : ℕ) → r + n ≤ past → body_from c r n xs ss ≡ body_from d r n xs ss
  unfolding body_from
  body-agree xs ss r zero h = refl
  body-agree xs ss r (suc n) h =
      rw (
        a.kinds r (omega arith),
        a.arrays r (omega arith),
        a.values r (omega arith),
        lead-agree xs (suc r) n (omega arith),
        body-agree xs ss (suc r) n (omega arith),
      )

  loop-agree : (k : ℕ) → k < m → loop_at c k ≡ loop_at d k
  loop-agree k h =
      rw (
        a.firsts k h,
        a.lasts k h,
        body-agree [] [] (start_at c k) (start_at c (suc k) - start_at c k) (omega (arith, a.inside k h, a.within (suc k) h)),
        a.starts k (omega arith),
        a.starts (suc k) h,
      )

  loops-agree : (k n : ℕ) → k + n ≤ m → loops_from c k n ≡ loops_from d k n
  unfolding loops_from
  loops-agree k zero h = refl
  loops-agree k (suc n) h =
      ap (λ (x : Loop). x ∷ loops_from c (suc k) n) (loop-agree k (omega arith))
      ∙ ap (λ (l : List Loop). loop_at d k ∷ l) (loops-agree (suc k) n (omega arith))

-- at the end the table is in the store
loops-none : (c : Store) (k : ℕ) → loops_from c k 0 ≡ []
unfolding loops_from
loops-none c k = refl

shown-all : (c : Store) (n rows : ℕ) → start_at c n ≡ rows → shown c n rows [] [] ≡ loops_from c 0 n
unfolding shown
shown-all c zero rows e = sym (loops-none c 0)
shown-all c (suc m) rows e =
    let z : 0 + m ≡ m = omega arith in
    let l : loop_with c m rows [] [] ≡ loop_at c m = rw e in
    ap (λ (x : Loop). loops_from c 0 m ++ (x ∷ [])) l ∙ sym (loops-snoc c 0 m ∙ ap (λ (k : ℕ). loops_from c 0 m ++ (loop_at c k ∷ [])) z)

pub stored-all : (c : Store) (rs : List Record) (rows : ℕ) → Stored c rs rows → loops_of rs [] [] ≡ loops_from c 0 (summary rs).loops
stored-all c rs rows s = s.loops [] [] ∙ shown-all c (summary rs).loops rows s.kept.end

-- the rows of an earlier loop start earlier
pub starts-up : (c : Store) (a n rows : ℕ) → InPlace c a n rows → (j k : ℕ) → j ≤ k → k ≤ n → start_at c j ≤ start_at c k
starts-up c a n rows h j zero l m = let e : j ≡ 0 = omega arith in rw e (omega arith)
starts-up c a n rows h j (suc k) l m = go (ℕ_discrete j (suc k)) (starts-up c a n rows h j k)
  where
    go : Dec (j ≡ suc k) → (j ≤ k → k ≤ n → start_at c j ≤ start_at c k) → start_at c j ≤ start_at c (suc k)
    go (yes e) ih = rw e (omega arith)
    go (no e) ih = omega (arith, ih (omega arith) (omega arith), h.rising k m)

-- d is c with one row more, the last of loop j
record Grown (c d : Store) (j rows : ℕ) (kind : RowKind) (q v : ℕ) : Type 0 where
  agree : Agree c d j rows
  past : start_at d (suc j) ≡ rows + 1
  kind-is : kind_at d rows ≡ kind_number kind
  array-is : array_at d rows ≡ q
  value-is : value_at d rows ≡ v

module _ (c d : Store) (j rows : ℕ) (kind : RowKind) (q v : ℕ) (g : Grown c d j rows kind q v) where
  row-grown : (kind_number kind < 2 → v ≤ 510) → ((r : ℕ) → r < rows → Row c r) → (r : ℕ) → r < rows + 1 → Row d r
  row-grown offset old r l = go (ℕ_discrete r rows)
    where
      go : Dec (r ≡ rows) → Row d r
      go (yes e) =
          rw e (record { offset = λ h. rw g.value-is (offset (rw g.kind-is at h)) })
      go (no e) =
          let m : r < rows = omega arith in
          record { offset = λ h. rw (← (g.agree.values r m)) ((old r m).offset (rw (← (g.agree.kinds r m)) at h)) }

  kept-grown : (a n : ℕ) → InPlace c a n rows → (start_at c j ≡ rows → kind_number kind ≡ 1) → j ≤ n → suc j ≤ 16 → rows < 576 → (kind_number kind < 2 → v ≤ 510)
      → InPlace d a (suc j) (rows + 1)
  kept-grown a n h top l few room offset = record {
    few-arrays = h.few-arrays;
    few-loops = few;
    few-rows = omega arith;
    start = rw (← (g.agree.starts 0 (omega arith))) h.start;
    rising = λ k m. rise k m (ℕ_discrete k j);
    end = g.past;
    opening = λ k m. rw (← (g.agree.starts k (omega arith))) (heads k m (ℕ_discrete (start_at c k) rows));
    each = row-grown offset h.each;
  }
    where
      heads : (k : ℕ) → k < suc j → Dec (start_at c k ≡ rows) → kind_at d (start_at c k) ≡ 1
      heads k m (yes e) = at (ℕ_discrete k j)
        where
          at : Dec (k ≡ j) → kind_at d (start_at c k) ≡ 1
          at (yes s) = rw (e, g.kind-is) (top (rw s at e))
          at (no s) = absurd (omega (arith, g.agree.inside k (omega arith)))
      heads k m (no e) =
          let low : start_at c k < rows = omega (arith, g.agree.within k (omega arith)) in
          rw (← (g.agree.kinds (start_at c k) low)) (h.opening k (before (ℕ_discrete k n)))
        where
          before : Dec (k ≡ n) → k < n
          before (yes s) = absurd (e (rw s h.end))
          before (no s) = omega arith

      rise : (k : ℕ) → k < suc j → Dec (k ≡ j) → start_at d k < start_at d (suc k)
      rise k m (yes e) = rw (e, ← (g.agree.starts j (omega arith)), g.past) (omega (arith, g.agree.within j (omega arith)))
      rise k m (no e) =
          rw (← (g.agree.starts k (omega arith)), ← (g.agree.starts (suc k) (omega arith))) (h.rising k (omega arith))

  -- the statements of loop j, with one row more: ys and ts are what that row makes of what follows
  module _ (xs ys : List Item) (ss ts : List Statement) (lead : lead_from d rows 1 xs ≡ ys) (body : body_from d rows 1 xs ss ≡ ts) where
    body-grown : (st n : ℕ) → st + n ≡ rows → body_from c st n ys ts ≡ body_from d st (n + 1) xs ss
    body-grown st n e =
        body-agree c d j rows g.agree ys ts st n (omega arith)
        ∙ sym (body-append d 1 xs ss st n ∙ rw (e, lead, body))

    shown-grown : first_at c j ≡ first_at d j → last_at c j ≡ last_at d j → start_at c j < rows
        → shown c (suc j) rows ys ts ≡ shown d (suc j) (rows + 1) xs ss
    unfolding shown
    shown-grown first last here =
        let a = g.agree in
        let st = start_at c j in
        let e : st + (rows - st) ≡ rows = omega arith in
        let f : rows + 1 - st ≡ (rows - st) + 1 = omega arith in
        let y : loop_with c j rows ys ts ≡ loop_with d j (rows + 1) xs ss =
        rw (← (a.starts j (omega arith)), first, last, f, body-grown st (rows - st) e) in
        ap (λ (l : List Loop). l ++ (loop_with c j rows ys ts ∷ [])) (loops-agree c d j rows a 0 j (omega arith))
        ∙ ap (λ (z : Loop). loops_from d 0 j ++ (z ∷ [])) y

shown-none : (c d : Store) (rows : ℕ) (xs : List Item) (ss : List Statement) → shown c 0 rows xs ss ≡ shown d 0 rows xs ss
unfolding shown
shown-none c d rows xs ss = refl

-- what one row makes of what follows: an item goes before the items, a destination opens a statement with them
module _ (d : Store) (r : ℕ) (xs : List Item) (ss : List Statement) where
  item-lead : (kind_at d r ≡ 1 → ⊥) → lead_from d r 1 xs ≡ item_at d r ∷ xs
  unfolding lead_from
  item-lead n = rw (ne_eqb (kind_at d r) 1 n)

  item-body : (kind_at d r ≡ 1 → ⊥) → body_from d r 1 xs ss ≡ ss
  unfolding body_from
  item-body n = rw (ne_eqb (kind_at d r) 1 n)

  opening-lead : kind_at d r ≡ 1 → lead_from d r 1 xs ≡ []
  unfolding lead_from
  opening-lead e = rw (eq-eqb (kind_at d r) 1 e)

  opening-body : kind_at d r ≡ 1 → body_from d r 1 xs ss ≡ record { array = array_at d r; offset = value_at d r; items = xs } ∷ ss
  unfolding body_from lead_from
  opening-body e = rw (eq-eqb (kind_at d r) 1 e)

-- THE STEPS: an item, a loop, an array
-- a row at the end of loop j: b is c but for the bounds of loop j
record Beside (c b : Store) (j : ℕ) : Type 0 where
  firsts : (k : ℕ) → (k ≡ j → ⊥) → first_at b k ≡ first_at c k
  lasts : (k : ℕ) → (k ≡ j → ⊥) → last_at b k ≡ last_at c k
  starts : b.starts ≡ c.starts
  rows : b.rows ≡ c.rows

row_more : (c b : Store) (a n j rows : ℕ) (kind : RowKind) (q v : ℕ) → InPlace c a n rows → j ≤ n → suc j ≤ 16 → rows < 576 → q < 16 → Beside c b j
    → Grown c (with_row (suc j) rows (row_of kind q v) b) j rows kind q v
row_more c b a n j rows kind q v h l few room small same = record {
  agree = record {
    firsts = λ k m. sym (ap (λ (ns : List ℕ). get_or ns k 0) (row-firsts b (suc j) rows (row_of kind q v)) ∙ same.firsts k (λ e. omega arith));
    lasts = λ k m. sym (ap (λ (ns : List ℕ). get_or ns k 0) (row-lasts b (suc j) rows (row_of kind q v)) ∙ same.lasts k (λ e. omega arith));
    starts = λ k m.
        sym (row-starts b (suc j) rows (row_of kind q v) k (λ e. omega arith) ∙ ap (λ (ns : List ℕ). get_or ns k 0) same.starts);
    inside = λ k m. omega (arith, h.rising k (omega arith), starts-up c a n rows h (suc k) n (omega arith) (omega arith), h.end);
    within = λ k m. omega (arith, starts-up c a n rows h k n (omega arith) (omega arith), h.end);
    kinds = λ r m. ap (λ (y : StoreRow). kind_number y.kind) (old r m);
    arrays = λ r m. ap (λ (y : StoreRow). y.array) (old r m);
    values = λ r m. ap (λ (y : StoreRow). y.value) (old r m);
  };
  past = row-start b (suc j) rows (row_of kind q v) (omega arith);
  kind-is = ap (λ (y : StoreRow). kind_number y.kind) (row-put b (suc j) rows (row_of kind q v) room);
  array-is = ap (λ (y : StoreRow). y.array) (row-put b (suc j) rows (row_of kind q v) room) ∙ mod-eq_of_lt small;
  value-is = ap (λ (y : StoreRow). y.value) (row-put b (suc j) rows (row_of kind q v) room);
}
  where
    old : (r : ℕ) → r < rows → row_at c r ≡ row_at (with_row (suc j) rows (row_of kind q v) b) r
    old r m = sym (row-others b (suc j) rows (row_of kind q v) r (λ e. omega arith) ∙ ap (λ (ns : List StoreRow). get_or ns r no_row) same.rows)

module _ (c : Store) (rs : List Record) (rows : ℕ) (s : Stored c rs rows) where
  few : (summary rs).statements + (summary rs).items < 36 → rows < 576
  few i = omega (arith, s.room, s.kept.few-loops)

  -- a row more in the latest loop, for an item or a further statement: ys and ts are what the record makes of what follows
  module _ (r : Record) (kind : RowKind) (q v m : ℕ) (ys : List Item → List Item) (ts : List Item → List Statement → List Statement)
      (lead : (d : Store) (xs : List Item) → kind_at d rows ≡ kind_number kind → array_at d rows ≡ q → value_at d rows ≡ v → lead_from d rows 1 xs ≡ ys xs)
      (body : (d : Store) (xs : List Item) (ss : List Statement) → kind_at d rows ≡ kind_number kind → array_at d rows ≡ q → value_at d rows ≡ v
      → body_from d rows 1 xs ss ≡ ts xs ss)
      (arrays : (summary (r ∷ rs)).arrays ≡ (summary rs).arrays) (loops : (summary (r ∷ rs)).loops ≡ (summary rs).loops)
      (counted : (summary (r ∷ rs)).statements + (summary (r ∷ rs)).items ≡ suc ((summary rs).statements + (summary rs).items))
      (most-statements : (summary (r ∷ rs)).statements ≤ 4) (most-items : (summary (r ∷ rs)).items ≤ 32) (same : lengths (r ∷ rs) ≡ lengths rs)
      (added : (xs : List Item) (ss : List Statement) → loops_of (r ∷ rs) xs ss ≡ loops_of rs (ys xs) (ts xs ss))
      (open_loop : (summary rs).loops ≡ suc m) (small : q < 16) (offset : kind_number kind < 2 → v ≤ 510) where
    d : Store
    d = with_row (suc m) rows (row_of kind q v) c

    free : (summary rs).statements + (summary rs).items < 36
    free = omega arith

    kept_then : InPlace c (summary rs).arrays (suc m) rows
    kept_then = subst (λ (n : ℕ). InPlace c (summary rs).arrays n rows) open_loop s.kept

    grown : Grown c d m rows kind q v
    unfolding d
    grown =
        row_more c c (summary rs).arrays (suc m) m rows kind q v kept_then (omega arith) kept_then.few-loops (few free) small
        (record { firsts = λ k n. refl; lasts = λ k n. refl; starts = refl; rows = refl })

    latest : (xs : List Item) (ss : List Statement) → shown c (suc m) rows (ys xs) (ts xs ss) ≡ shown d (suc m) (rows + 1) xs ss
    unfolding d
    latest xs ss =
        shown-grown c d m rows kind q v grown xs (ys xs) ss (ts xs ss) (lead d xs grown.kind-is grown.array-is grown.value-is)
        (body d xs ss grown.kind-is grown.array-is grown.value-is)
        (sym (ap (λ (ns : List ℕ). get_or ns m 0) (row-firsts c (suc m) rows (row_of kind q v))))
        (sym (ap (λ (ns : List ℕ). get_or ns m 0) (row-lasts c (suc m) rows (row_of kind q v))))
        (omega (arith, kept_then.rising m (omega arith), kept_then.end))

    row-stored : Stored d (r ∷ rs) (rows + 1)
    unfolding d
    row-stored =
        let loops-then : (summary (r ∷ rs)).loops ≡ suc m = loops ∙ open_loop in
        record {
          lens = rw (arrays, same, row-lengths c (suc m) rows (row_of kind q v)) s.lens;
          loops = λ xs ss.
              rw loops-then
              (added xs ss ∙ s.loops (ys xs) (ts xs ss) ∙ ap (λ (n : ℕ). shown c n rows (ys xs) (ts xs ss)) open_loop ∙ latest xs ss);
          kept =
              rw (arrays, loops-then)
              (kept-grown c d m rows kind q v grown (summary rs).arrays (suc m) kept_then
              (λ e. absurd (omega (arith, kept_then.rising m (omega arith), kept_then.end))) (omega arith) kept_then.few-loops (few free) offset);
          statements = most-statements;
          items = most-items;
          room = omega (arith, s.room);
        }

  -- a loop begins with its destination's row
  module _ (f l q o : ℕ) (free : (summary rs).loops < 16) (small : q < 16) (offset : o ≤ 510) where
    n : ℕ
    n = (summary rs).loops

    b : Store
    b = with_bounds n f l c

    e : Store
    e = with_row (suc n) rows (row_of row.Destination q o) b

    low : rows < 576
    low = omega (arith, s.room, s.items, s.statements)

    begun : Grown c e n rows row.Destination q o
    unfolding e b n
    begun =
        row_more c b (summary rs).arrays n n rows row.Destination q o s.kept (omega arith) free low small (record {
          firsts = bounds-firsts c n f l;
          lasts = bounds-lasts c n f l;
          starts = (bounds-leave c n f l).1;
          rows = (bounds-leave c n f l).2;
        })

    head : (xs : List Item) (ss : List Statement)
        → loop_with e n (rows + 1) xs ss ≡ record { first = f; last = l; body = record { array = q; offset = o; items = xs } ∷ ss }
    unfolding e b n
    head xs ss =
        let at : start_at e n ≡ rows = sym (begun.agree.starts n (omega arith)) ∙ s.kept.end in
        let z : rows + 1 - rows ≡ 1 = omega arith in
        rw (
          ap (λ (ns : List ℕ). get_or ns n 0) (row-firsts b (suc n) rows (row_of row.Destination q o)) ∙ bounds-first c n f l free,
          ap (λ (ns : List ℕ). get_or ns n 0) (row-lasts b (suc n) rows (row_of row.Destination q o)) ∙ bounds-last c n f l free,
          at,
          z,
          opening-body e rows xs ss begun.kind-is,
          begun.array-is,
          begun.value-is,
        )

    lens-begun : e.lengths ≡ c.lengths
    unfolding e b
    lens-begun = row-lengths b (suc n) rows (row_of row.Destination q o) ∙ (bounds-leave c n f l).0

    loops-begun : (xs : List Item) (ss : List Statement)
        → loops_of rs [] [] ++ (record { first = f; last = l; body = record { array = q; offset = o; items = xs } ∷ ss } ∷ [])
        ≡ shown e (suc n) (rows + 1) xs ss
    unfolding shown n
    loops-begun xs ss =
        ap (λ (k : List Loop). k ++ (record { first = f; last = l; body = record { array = q; offset = o; items = xs } ∷ ss } ∷ []))
        (stored-all c rs rows s ∙ loops-agree c e n rows begun.agree 0 n (omega arith))
        ∙ ap (λ (z : Loop). loops_from e 0 n ++ (z ∷ [])) (sym (head xs ss))

    loop-stored : Stored e (rec.Loop f l q o ∷ rs) (rows + 1)
    unfolding summary advanced with_loop lengths loops_of n
    loop-stored = record {
      lens = rw lens-begun s.lens;
      loops = λ xs ss. rw (add-one (summary rs).loops) (loops-begun xs ss);
      kept =
          rw (add-one (summary rs).loops)
          (kept-grown c e n rows row.Destination q o begun (summary rs).arrays n s.kept (λ e. refl) (omega arith) free low (λ h. offset));
      statements = omega arith;
      items = omega arith;
      room = omega (arith, s.room, s.items, s.statements);
    }

  -- arrays come before the loops
  array-stored : (k : ℕ) → (summary rs).loops ≡ 0 → (summary rs).arrays < 16
      → Stored (with_length (summary rs).arrays k c) (rec.Array k ∷ rs) rows
  unfolding summary advanced with_array lengths loops_of with_length
  array-stored k none free = record {
    lens =
        let a = (summary rs).arrays in
        let h : a < length (set c.lengths a k) = simp length-set (omega (arith, c.sized.lengths_sized)) in
        rw (
          add-one a,
          take-suc (set c.lengths a k) a 0 h,
          take-set-le a c.lengths a k (omega arith),
          get_or-set_same c.lengths a k 0 (omega (arith, c.sized.lengths_sized)),
          s.lens,
        );
    loops = λ xs ss. s.loops xs ss ∙ rw none (shown-none c (with_length (summary rs).arrays k c) rows xs ss);
    kept = record {
      few-arrays = omega arith;
      few-loops = s.kept.few-loops;
      few-rows = s.kept.few-rows;
      start = s.kept.start;
      rising = λ j h. absurd (omega arith);
      end = s.kept.end;
      opening = λ j h. absurd (omega arith);
      each = λ r h. absurd (omega (arith, s.room, s.items, s.statements));
    };
    statements = s.statements;
    items = s.items;
    room = s.room;
  }

  -- an item goes to the latest statement
  item-kept : (r : Record) (x : Item) (kind : RowKind) (q v w : ℕ) → item_of (kind_number kind) q v ≡ x → (kind_number kind ≡ 1 → ⊥) → summary (r ∷ rs) ≡ with_item w (summary rs)
      → lengths (r ∷ rs) ≡ lengths rs → ((xs : List Item) (ss : List Statement) → loops_of (r ∷ rs) xs ss ≡ loops_of rs (x ∷ xs) ss)
      → 0 < (summary rs).loops → (summary rs).items < 32 → q < 16 → (kind_number kind < 2 → v ≤ 510)
      → Stored (with_row (summary rs).loops rows (row_of kind q v) c) (r ∷ rs) (rows + 1)
  unfolding d with_item
  item-kept r x kind q v w i other counted same added some free small offset =
      let open_loop : (summary rs).loops ≡ suc ((summary rs).loops - 1) = omega arith in
      let items : (summary (r ∷ rs)).items ≡ (summary rs).items + 1 = ap (λ (t : Summary). t.items) counted in
      let statements : (summary (r ∷ rs)).statements ≡ (summary rs).statements = ap (λ (t : Summary). t.statements) counted in
      subst (λ (k : ℕ). Stored (with_row k rows (row_of kind q v) c) (r ∷ rs) (rows + 1)) (sym open_loop)
      (row-stored r kind q v ((summary rs).loops - 1) (λ xs. x ∷ xs) (λ xs ss. ss)
      (λ d xs a b g. item-lead d rows xs [] (λ e. other (sym a ∙ e)) ∙ ap (λ (y : Item). y ∷ xs) (rw (a, b, g) i))
      (λ d xs ss a b g. item-body d rows xs ss (λ e. other (sym a ∙ e)))
      (ap (λ (t : Summary). t.arrays) counted) (ap (λ (t : Summary). t.loops) counted) (omega arith)
      (omega (arith, s.statements)) (omega arith) same added open_loop small offset)

  -- a further statement opens the latest loop's next one
  statement-kept : (q o : ℕ) → 0 < (summary rs).loops → (summary rs).statements < 4 → q < 16 → o ≤ 510
      → Stored (with_row (summary rs).loops rows (row_of row.Destination q o) c) (rec.Statement q o ∷ rs) (rows + 1)
  unfolding d summary advanced with_statement lengths loops_of
  statement-kept q o some free small offset =
      let open_loop : (summary rs).loops ≡ suc ((summary rs).loops - 1) = omega arith in
      subst (λ (k : ℕ). Stored (with_row k rows (row_of row.Destination q o) c) (rec.Statement q o ∷ rs) (rows + 1)) (sym open_loop)
      (row-stored (rec.Statement q o) row.Destination q o ((summary rs).loops - 1) (λ xs. []) (λ xs ss. record { array = q; offset = o; items = xs } ∷ ss)
      (λ d xs a b g. opening-lead d rows xs [] a) (λ d xs ss a b g. opening-body d rows xs ss a ∙ rw (b, g))
      refl refl (omega arith) (omega arith) s.items refl (λ xs ss. refl) open_loop small (λ h. offset))

  -- every record that meets no ground; its array is one of those before it, of which there are at most sixteen
  pub kept_small : (x : Record) → Clear x (summary rs) (lengths rs) → ArrayFits x
  kept_small rec.Unknown clear = tt
  kept_small (rec.Array k) clear = tt
  kept_small (rec.Loop f l q o) clear = omega (arith, clear.4, s.kept.few-arrays)
  kept_small (rec.Read q o) clear = omega (arith, clear.2, s.kept.few-arrays)
  kept_small (rec.Constant k) clear = tt
  kept_small (rec.Operation o) clear = tt
  kept_small rec.End clear = tt
  kept_small (rec.Statement q o) clear = omega (arith, clear.3, s.kept.few-arrays)

  pub kept-stored : (x : Record) → Clear x (summary rs) (lengths rs) → (x ≡ rec.End → ⊥) → Stored (kept x (summary rs) rows c) (x ∷ rs) (rows_after x rows)
  unfolding kept rows_after e b n item_of summary advanced lengths loops_of
  kept-stored rec.Unknown clear other = absurd clear
  kept-stored (rec.Array k) clear other = array-stored k clear.0 clear.1
  kept-stored (rec.Loop f l q o) clear other =
      rw (add-one (summary rs).loops) (loop-stored f l q o clear.1 (kept_small (rec.Loop f l q o) clear) clear.5)
  kept-stored (rec.Read q o) clear other =
      item-kept (rec.Read q o) (read q o) row.Read q o _ refl (λ e. omega arith) refl refl (λ xs ss. refl) clear.0 clear.1
      (kept_small (rec.Read q o) clear) (λ h. clear.3)
  kept-stored (rec.Constant k) clear other =
      item-kept (rec.Constant k) (constant k) row.Constant 0 k _ refl (λ e. omega arith) refl refl (λ xs ss. refl) clear.0 clear.1 (omega arith) (λ h. absurd (omega arith))
  kept-stored (rec.Operation o) clear other =
      item-kept (rec.Operation o) (operation o) row.Operation 0 o _ refl (λ e. omega arith) refl refl (λ xs ss. refl) clear.0 clear.1 (omega arith) (λ h. absurd (omega arith))
  kept-stored rec.End clear other = absurd (other refl)
  kept-stored (rec.Statement q o) clear other =
      statement-kept q o clear.0 clear.2 (kept_small (rec.Statement q o) clear) clear.4

-- before the first record
pub stored-start : (c : Store) → start_at c 0 ≡ 0 → Stored c [] 0
unfolding summary blank lengths loops_of shown
stored-start c e = record {
  lens = refl;
  loops = λ xs ss. refl;
  kept = record {
    few-arrays = omega arith;
    few-loops = omega arith;
    few-rows = omega arith;
    start = e;
    rising = λ k h. absurd (omega arith);
    end = e;
    opening = λ k h. absurd (omega arith);
    each = λ r h. absurd (omega arith);
  };
  statements = omega arith;
  items = omega arith;
  room = omega arith;
}

-- AT THE END the counts are put beside the table
module _ (c : Store) (a l rows : ℕ) (h : InPlace c a l rows) where
  full : Store
  full = with_counts a l c

  before-end : (k : ℕ) → k ≤ l → start_at c k ≤ rows
  before-end k m = omega (arith, starts-up c a l rows h k l m (omega arith), h.end)

  same : Agree c full l rows
  unfolding full with_counts
  same = record {
    firsts = λ k m. refl;
    lasts = λ k m. refl;
    starts = λ k m. refl;
    inside = λ k m. omega (arith, h.rising k m, before-end (suc k) m);
    within = before-end;
    kinds = λ r m. refl;
    arrays = λ r m. refl;
    values = λ r m. refl;
  }

  pub counted-table : table_in (with_counts a l c) ≡ table_at c a l
  unfolding full with_counts
  counted-table = rw (← (loops-agree c full l rows same 0 l (omega arith)))

  row_same : (r : ℕ) → r < rows → Row full r
  unfolding full with_counts
  row_same r m = record { offset = (h.each r m).offset }

  counted-kept : InPlace (with_counts a l c) (arrays_in (with_counts a l c)) (loops_in (with_counts a l c)) (start_at (with_counts a l c) (loops_in (with_counts a l c)))
  unfolding full with_counts
  counted-kept = rw h.end (record {
    few-arrays = h.few-arrays;
    few-loops = h.few-loops;
    few-rows = h.few-rows;
    start = h.start;
    rising = h.rising;
    end = h.end;
    opening = h.opening;
    each = row_same;
  })

  pub counted-holds : Holds (with_counts a l c) (table_in (with_counts a l c))
  counted-holds = record { is = refl; kept = counted-kept }
