-- The walk over the rows of a loop, and the walk over the loops.
use Prim.Native.Nat.{ℕ, zero, suc, ◌+◌, ◌-◌, ◌≤◌, ◌<◌}
use native.Mathlib.Omega.{arith}
use native.Mathlib.Decide.{ℕ_discrete, dec_lt}
use native.Mathlib.Numerals.{add-one}
use mathlib.Core.Path.{◌≡◌, refl, sym, ap, subst, ◌∙◌}
use mathlib.Core.Logic.{⊎_elim}
use mathlib.Core.Bool.{Bool, true, false, false≢true, and-false}
use mathlib.Core.List.Memᴰ
use mathlib.Core.List.{List, [], ◌∷◌, ◌++◌}
use mathlib.Core.List.Memᴰ.{head as mhere}
use mathlib.Core.List.Memᴰ.{tail as mthere}
use mathlib.Core.List.{Memᴰ as Mem}
use mathlib.Core.List.Memᴰ.{cases_cons}
use mathlib.Core.List.Memᴰ.{not-nil}
use lib.ListN.{length, length-append}
use borrow.Author.Tests.{lt-ltb, le-ltb, eq-eqb, ne_eqb}
use Rattle.overlap.specs.Booleans.{not-true}
use Rattle.chains.proofs.DependenceLaws.{touch_is}
use Rattle.model.specs.declared.Reference.{Reference}
use Rattle.model.specs.References.{touch, Touch}
use Rattle.model.specs.Table.{loop, count}
use Rattle.refusals.specs.Refusals.{naming}
use Rattle.refusals.specs.declared.Refusal.{Refusal}
use Rattle.refusals.specs.Answers.{accepted, refused}
use Rattle.records.specs.declared.storage.Store.{Store}
use Rattle.reader.specs.Reading.{Answer, reading}
use Rattle.reader.specs.Store.{first_at, last_at, start_at, kind_at, loops_in, loop_at, table_in}
use Rattle.reader.specs.ReadInto.{ReadInto}
use Rattle.reader.specs.Held.{Held, count_held, few-loops, few-rows, rows-rise, row-held, opening-held, loop-held}
use Rattle.reader.specs.Rows.{ref_in, row_refs, refs_from, refs_in, LastDestination}
use Rattle.reader.specs.RowLaws.{row-reference, row-none, body-refers, refs-next, refs_end, refs-split, refs-up}
use Rattle.std.specs.Prelude.{None, Some, Result, Ok, Err}
use Rattle.serial.specs.declared.LoopRows.{LoopRows}
use Rattle.serial.specs.Serial.{Collision, pair, collides, hit, or_else, pair_hit, loop_hit, after_loop, serial_from, through, table}
use Rattle.serial.specs.Rows.{rows_of, Known, collides_row, Partner, PartnerOrDestination}

-- A PAIR: of two arrays, at one offset, of two reads it does not collide; else its iterations decide
module _ (f l : ℕ) (r q : Reference) where
  pub untouched : (Touch r q → ⊥) → collides f l r q ≡ false
  unfolding collides
  untouched n = rw (not-true (touch r q) (λ e. n ((touch_is r q).0 e)))

  pub other-array : (r.array ≡ q.array → ⊥) → false ≡ collides f l r q
  other-array n = sym (untouched (λ t. n t.0))

  pub same-offset : r.offset ≡ q.offset → false ≡ collides f l r q
  unfolding collides
  same-offset e = sym (rw (eq-eqb r.offset q.offset e) (and-false (touch r q)))

  reads-apart : r.stores ≡ false → q.stores ≡ false → collides f l r q ≡ false
  reads-apart a b = untouched (λ t. ⊎_elim (λ s. false≢true (sym a ∙ s)) (λ s. false≢true (sym b ∙ s)) t.1)

-- references of which no two collide
module _ (f l : ℕ) where
  apart-hit : (n : ℕ) (r : Reference) (qs : List Reference) (m : ℕ) → ((q : Reference) → Mem q qs → collides f l r q ≡ false)
      → hit f l n r qs m ≡ None
  unfolding hit
  apart-hit n r [] m a = refl
  apart-hit n r (q ∷ qs) m a = rw (a q (mhere refl), apart-hit n r qs (m + 1) (λ p h. a p (mthere h)))

  pub apart-pairs : (rs : List Reference) (n : ℕ) → ((r q : Reference) → Mem r rs → Mem q rs → collides f l r q ≡ false) → pair_hit f l rs n ≡ None
  unfolding pair_hit
  apart-pairs [] n a = refl
  apart-pairs (r ∷ rs) n a =
      rw (apart-hit n r rs (n + 1) (λ q h. a r q (mhere refl) (mthere h)), apart-pairs rs (n + 1) (λ p q h i. a p q (mthere h) (mthere i)))

-- ROWS
module _ (c : Store) where
  -- each reference of some rows is that of one of them
  row_one : (r : ℕ) (q : Reference) → Mem q (row_refs c 0 r) → (kind_at c r < 2) × (q ≡ ref_in c 0 r)
  row_one r q m = go (dec_lt (kind_at c r) 2)
    where
      go : Dec (kind_at c r < 2) → (kind_at c r < 2) × (q ≡ ref_in c 0 r)
      go (yes l) = (l, ⊎_elim (λ e. e) (λ i. absurd (not-nil i)) (cases_cons (rw (row-reference c 0 r l) at m)))
      go (no l) = absurd (not-nil (rw (row-none c 0 r (omega arith)) at m))

  pub rows-one : (n r : ℕ) (q : Reference) → Mem q (refs_from c 0 r n) → (i : ℕ) × (r ≤ i) × (i < r + n) × (kind_at c i < 2) × (q ≡ ref_in c 0 i)
  unfolding refs_from
  rows-one zero r q m = absurd (not-nil m)
  rows-one (suc n) r q m =
      ⊎_elim
      (λ h. let (k, e) = row_one r q h in (r, omega arith, omega arith, k, e))
      (λ h. let (i, a, b, k, e) = rows-one n (suc r) q h in (i, omega arith, omega arith, k, e))
      (Memᴰ.append_cases (row_refs c 0 r) m)

  -- where none is a destination, they read
  rows-read : (n r : ℕ) → ((i : ℕ) → r ≤ i → i < r + n → kind_at c i ≡ 1 → ⊥) → (q : Reference) → Mem q (refs_from c 0 r n) → q.stores ≡ false
  rows-read n r none q m = let (i, a, b, k, e) = rows-one n r q m in rw e (ne_eqb (kind_at c i) 1 (none i a b))

module _ (c : Store) (f l : ℕ) where
  abbrev R : ℕ → ℕ → List Reference
  R from past = refs_in c 0 from past

  -- THE TEST OF A ROW
  pub row_other : (x : Reference) (r : ℕ) → 2 ≤ kind_at c r → false ≡ collides_row c f l x r
  row_other x r h = sym (rw (le-ltb (kind_at c r) 2 h))

  pub row-reference-is : (x : Reference) (r : ℕ) (b : Bool) → kind_at c r < 2 → b ≡ collides f l x (ref_in c 0 r) → b ≡ collides_row c f l x r
  row-reference-is x r b h e = e ∙ sym (rw (lt-ltb (kind_at c r) 2 h))

  pub row_apart : (x : Reference) (r : ℕ) → ((ref_in c 0 r).array ≡ x.array → ⊥) → false ≡ collides_row c f l x r
  row_apart x r n = go (dec_lt (kind_at c r) 2)
    where
      go : Dec (kind_at c r < 2) → false ≡ collides_row c f l x r
      go (yes h) = row-reference-is x r false h (other-array f l x (ref_in c 0 r) (λ e. n (sym e)))
      go (no h) = row_other x r (omega arith)

  -- A ROW AND THOSE BEHIND IT, the rows before `other` passed over
  module _ (x : Reference) (from past : ℕ) where
    abbrev pub Passed : ℕ → Type 0
    Passed other = (from ≤ other) × ((n m : ℕ) → hit f l n x (R from past) m ≡ hit f l n x (R other past) (m + length (R from other)))

    pub passed_start : Passed from
    passed_start = (omega arith, λ n m. let z : m + 0 ≡ m = omega arith in rw (refs_end c 0 from from (omega arith), z))

    hit-row : (other : ℕ) → other < past → (n m : ℕ) → collides_row c f l x other ≡ false
        → hit f l n x (R other past) m ≡ hit f l n x (R (other + 1) past) (m + length (row_refs c 0 other))
    unfolding hit
    hit-row other h n m e = go (dec_lt (kind_at c other) 2)
      where
        go : Dec (kind_at c other < 2) → hit f l n x (R other past) m ≡ hit f l n x (R (other + 1) past) (m + length (row_refs c 0 other))
        go (yes d) =
            let a : collides f l x (ref_in c 0 other) ≡ false = row-reference-is x other _ d refl ∙ e in
            rw (refs-next c 0 other past h, row-reference c 0 other d, a)
        go (no d) = let z : m + 0 ≡ m = omega arith in rw (refs-next c 0 other past h, row-none c 0 other (omega arith), z)

    module _ (other : ℕ) (p : Passed other) (h : other < past) where
      pub passed-next : false ≡ collides_row c f l x other → Passed (other + 1)
      passed-next e = (
        omega (arith, p.0),
        λ n m.
            let up = ap length (refs-up c 0 from other p.0) ∙ length-append (R from other) (row_refs c 0 other) in
            let s : m + length (R from other) + length (row_refs c 0 other) ≡ m + length (R from (other + 1)) = omega arith in
            p.1 n m ∙ hit-row other h n (m + length (R from other)) (sym e)
            ∙ ap (hit f l n x (R (other + 1) past)) s,
      )

      pub passed-found : true ≡ collides_row c f l x other → (n m : ℕ) → hit f l n x (R from past) m ≡ pair n (m + length (R from other))
      unfolding hit
      passed-found e n m = p.1 n m ∙ go (dec_lt (kind_at c other) 2)
        where
          go : Dec (kind_at c other < 2) → hit f l n x (R other past) (m + length (R from other)) ≡ pair n (m + length (R from other))
          go (yes d) =
              let a : collides f l x (ref_in c 0 other) ≡ true = row-reference-is x other _ d refl ∙ sym e in
              rw (refs-next c 0 other past h, row-reference c 0 other d, a)
          go (no d) = absurd (false≢true (row_other x other (omega arith) ∙ sym e))

    pub passed-end : (other : ℕ) → Passed other → past ≤ other → (n m : ℕ) → hit f l n x (R from past) m ≡ None
    unfolding hit
    passed-end other p h n m = p.1 n m ∙ rw (refs_end c 0 other past h)

  -- PARTNERS
  module _ (row past : ℕ) (h : row < past) where
    pub partner-other : 2 ≤ kind_at c row → Partner c f l row past None
    partner-other d n = let y : n + 0 ≡ n = omega arith in rw (refs-next c 0 row past h, row-none c 0 row d, y)

    module _ (d : kind_at c row < 2) where
      pairs-row : (n : ℕ) → pair_hit f l (R row past) n
          ≡ or_else (hit f l n (ref_in c 0 row) (R (row + 1) past) (n + 1)) (pair_hit f l (R (row + 1) past) (n + 1))
      unfolding pair_hit
      pairs-row n = rw (refs-next c 0 row past h, row-reference c 0 row d)

      pub partner-none : (other : ℕ) → Passed (ref_in c 0 row) (row + 1) past other → past ≤ other → Partner c f l row past None
      partner-none other p e n = pairs-row n ∙ rw (passed-end (ref_in c 0 row) (row + 1) past other p e n (n + 1), row-reference c 0 row d)

      pub partner-found : (other : ℕ) → Passed (ref_in c 0 row) (row + 1) past other → other < past → true ≡ collides_row c f l (ref_in c 0 row) other
          → Partner c f l row past (Some other)
      partner-found other p below e = (
        (omega (arith, p.0), below),
        λ n.
            let s : n + 1 + length (R (row + 1) other) ≡ n + length (R row other) =
            omega (arith, ap length (refs-next c 0 row other (omega (arith, p.0))), length-append (row_refs c 0 row) (R (row + 1) other), ap length (row-reference c 0 row d)) in
            pairs-row n ∙ rw (passed-found (ref_in c 0 row) (row + 1) past other p below e n (n + 1), s),
      )

  -- A DESTINATION AND THOSE BEHIND IT, those before `other` reads that do not collide with it
  module _ (x : Reference) (row past : ℕ) where
    abbrev pub Alone : ℕ → Type 0
    Alone other = Passed x (row + 1) past other × ((i : ℕ) → row < i → i < other → kind_at c i ≡ 1 → ⊥) × (other ≤ past)

    pub alone-start : row < past → Alone (row + 1)
    alone-start h = (passed_start x (row + 1) past, λ i a b. absurd (omega arith), omega arith)

    pub alone-next : (other : ℕ) → Alone other → other < past → (kind_at c other ≡ 1 → ⊥) → false ≡ collides_row c f l x other → Alone (other + 1)
    alone-next other (p, reads, b) h n e = (passed-next x (row + 1) past other p h e, λ i u v k. go i u v k (ℕ_discrete i other), omega arith)
      where
        go : (i : ℕ) → row < i → i < other + 1 → kind_at c i ≡ 1 → Dec (i ≡ other) → ⊥
        go i u v k (yes z) = n (rw z at k)
        go i u v k (no z) = reads i u (omega arith) k

    -- then comes a destination, a row that collides, or the end
    module _ (is : x ≡ ref_in c 0 row) (start : row < past) (d : kind_at c row ≡ 1) (other : ℕ) (w : Alone other) where
      pub alone-found : other < past → true ≡ collides_row c f l x other → PartnerOrDestination c f l row past (Some other)
      alone-found h e = ((omega (arith, w.0.0), h), w.1, λ n. partner-found row past start (omega arith) other (rw is at w.0) h (rw is at e))

      pub alone-end : past ≤ other → PartnerOrDestination c f l row past None
      alone-end h = (λ i a b. w.1 i a (omega arith), partner-none row past start (omega arith) other (rw is at w.0) h)

  -- THE LOWER ROWS
  module _ (from past : ℕ) where
    -- those before `row` have no partner
    pub record Lower (row : ℕ) : Type 0 where
      pub low : from ≤ row
      pub rest : pair_hit f l (R from past) 0 ≡ pair_hit f l (R row past) (length (R from row))

    pub lower-start : Lower from
    lower-start = record { low = omega arith; rest = rw (refs_end c 0 from from (omega arith)) }

    module _ (row : ℕ) (w : Lower row) where
      pub lower-next : Partner c f l row past None → Lower (row + 1)
      lower-next p =
          let up = ap length (refs-up c 0 from row w.low) ∙ length-append (R from row) (row_refs c 0 row) in
          record {
            low = omega (arith, w.low);
            rest = w.rest ∙ p (length (R from row)) ∙ ap (pair_hit f l (R (row + 1) past)) (sym up);
          }

      pub lower-found : (other : ℕ) → Partner c f l row past (Some other) → pair (length (R from row)) (length (R from other)) ≡ pair_hit f l (R from past) 0
      lower-found other ((up, below), is) =
          let e : from + (row - from) ≡ row = omega (arith, w.low) in
          let all : R from other ≡ R from row ++ R row other =
          subst (λ (m : ℕ). R from other ≡ R from m ++ R m other) e (refs-split c 0 from (row - from) other (omega (arith, w.low))) in
          let s : length (R from other) ≡ length (R from row) + length (R row other) = ap length all ∙ length-append (R from row) (R row other) in
          sym (w.rest ∙ is (length (R from row)) ∙ ap (pair (length (R from row))) (sym s))

    pub lower-end : (row : ℕ) → Lower row → ((i : ℕ) → row ≤ i → i < past → kind_at c i ≡ 1 → ⊥) → None ≡ pair_hit f l (R from past) 0
    lower-end row w none =
        let reads = rows-read c (past - row) row (λ i a b. none i a (omega arith)) in
        sym (w.rest ∙ apart-pairs f l (R row past) (length (R from row)) (λ r q h i. reads-apart f l r q (reads r h) (reads q i)))

-- HOW MANY REFERENCES the rows from `from` up to `past` have: n come before `row`
module _ (c : Store) (from past : ℕ) where
  abbrev pub Counted : ℕ → ℕ → Type 0
  Counted row n = (from ≤ row) × (length (refs_in c 0 from past) ≡ n + length (refs_in c 0 row past)) × (n + from ≤ row)

  pub counted_start : Counted from 0
  counted_start = (omega arith, omega arith, omega arith)

  module _ (row n : ℕ) (w : Counted row n) where
    module _ (h : row < past) where
      next : length (refs_in c 0 row past) ≡ length (row_refs c 0 row) + length (refs_in c 0 (row + 1) past)
      next = ap length (refs-next c 0 row past h) ∙ length-append (row_refs c 0 row) (refs_in c 0 (row + 1) past)

      pub counted-reference : kind_at c row < 2 → Counted (row + 1) (n + 1)
      counted-reference d = (omega (arith, w.0), omega (arith, w.1, next, ap length (row-reference c 0 row d)), omega (arith, w.2))

      pub counted-other : 2 ≤ kind_at c row → Counted (row + 1) n
      counted-other d = (omega (arith, w.0), omega (arith, w.1, next, ap length (row-none c 0 row d)), omega (arith, w.2))

    pub counted-end : past ≤ row → n ≡ length (refs_in c 0 from past)
    counted-end h = omega (arith, w.1, ap length (refs_end c 0 row past h))

-- LOOPS
-- of l loops, those from k on give what all give
pub record LoopInv (c : Store) (l k : ℕ) : Type 0 where
  pub all : l ≡ count (table_in c)
  pub within : k ≤ l
  pub rest : serial_from (table_in c) k (l - k) ≡ through (accepted (table_in c))

module _ (c : Store) (h : Held c) where
  -- the rows of a loop that there is
  pub rows-known : (k : ℕ) → k < count (table_in c) → (k < 16) × (start_at c k < start_at c (k + 1)) × (start_at c (k + 1) ≤ 576)
  rows-known k m = (omega (arith, count_held h, few-loops h), rw (add-one k) (rows-rise h k m), rw (add-one k) (few-rows h (suc k) m))

  pub known : (k : ℕ) → k < count (table_in c) → Known c (rows_of c k)
  known k m = record {
    some = (rows-known k m).1;
    few = (rows-known k m).2;
    each = λ r l. row-held h (suc k) r m (rw (add-one k) at l);
  }

  -- the test of loop k is that of its rows
  pub loop-rows : (k : ℕ) → k < count (table_in c) → pair_hit (first_at c k) (last_at c k) (refs_in c 0 (start_at c k) (start_at c (k + 1))) 0 ≡ loop_hit (loop_at c k)
  unfolding loop_hit
  loop-rows k m =
      rw (add-one k)
      (ap (λ (rs : List Reference). pair_hit (first_at c k) (last_at c k) rs 0)
      (sym (body-refers c 0 (start_at c k) (start_at c (suc k) - start_at c k) (omega (arith, rows-rise h k m)) (opening-held h k m))))

  -- what the code has of loop k: its bounds, and where its rows begin and end
  module _ (k : ℕ) (m : k < count (table_in c)) (rows : LoopRows) (is : rows ≡ rows_of c k) where
    all-rows : pair_hit rows.first rows.last (refs_in c 0 rows.from rows.past) 0 ≡ loop_hit (loop_at c k)
    all-rows = rw is (loop-rows k m)

    pub loop-found : (row other a b : ℕ) → Lower c rows.first rows.last rows.from rows.past row → Partner c rows.first rows.last row rows.past (Some other)
        → a ≡ length (refs_in c 0 rows.from row) → b ≡ length (refs_in c 0 rows.from other) → pair a b ≡ loop_hit (loop_at c k)
    loop-found row other a b w p a-is b-is = rw (a-is, b-is) (lower-found c rows.first rows.last rows.from rows.past row w other p ∙ all-rows)

    pub loop-nothing : (row end : ℕ) → Lower c rows.first rows.last rows.from rows.past row → LastDestination c k end → end < row → None ≡ loop_hit (loop_at c k)
    loop-nothing row end w d h =
        let e = ap (start_at c) (add-one k) in
        let p = ap (λ (x : LoopRows). x.past) is in
        lower-end c rows.first rows.last rows.from rows.past row w (λ i a z. d.none i (omega arith) (omega arith)) ∙ all-rows

    pub loop-apart : pair_hit rows.first rows.last (refs_in c 0 rows.from rows.past) 0 ≡ None → None ≡ loop_hit (loop_at c k)
    loop-apart e = sym e ∙ all-rows

    pub loop-alone : PartnerOrDestination c rows.first rows.last rows.from rows.past None → None ≡ loop_hit (loop_at c k)
    loop-alone (reads, p) =
        let one = lower-next c rows.first rows.last rows.from rows.past rows.from (lower-start c rows.first rows.last rows.from rows.past) p in
        lower-end c rows.first rows.last rows.from rows.past (rows.from + 1) one (λ i a z. reads i (omega arith) z) ∙ all-rows

    pub loop-first : (other b : ℕ) → PartnerOrDestination c rows.first rows.last rows.from rows.past (Some other) → (kind_at c other ≡ 1 → ⊥)
        → b ≡ length (refs_in c 0 rows.from other) → pair 0 b ≡ loop_hit (loop_at c k)
    loop-first other b (_, _, p) n b-is =
        loop-found rows.from other 0 b (lower-start c rows.first rows.last rows.from rows.past) (p n)
        (sym (ap length (refs_end c 0 rows.from rows.from (omega arith)))) b-is

  module _ (l : ℕ) where
    pub loops-start : l ≡ loops_in c → LoopInv c l 0
    unfolding through
    loops-start z =
        let a : l ≡ count (table_in c) = z ∙ sym (count_held h) in
        let e : l - 0 ≡ l = omega arith in
        record { all = a; within = omega arith; rest = rw e (ap (serial_from (table_in c) 0) a) }

    module _ (k : ℕ) (inv : LoopInv c l k) where
      module _ (m : k < l) where
        pub there : k < count (table_in c)
        there = omega (arith, inv.all)

        module _ (x : Collision) (found : x ≡ loop_hit (loop_at c k)) where
          hit-here : loop_hit (loop (table_in c) k) ≡ x
          hit-here = ap loop_hit (loop-held h k there) ∙ sym found

          turn : after_loop k x (serial_from (table_in c) (suc k) (l - suc k)) ≡ through (accepted (table_in c))
          unfolding serial_from
          turn =
              let e : l - k ≡ suc (l - suc k) = omega arith in
              rw hit-here at (subst (λ (n : ℕ). serial_from (table_in c) k n ≡ through (accepted (table_in c))) e inv.rest)

          pub loop-passed : x ≡ None → LoopInv c l (k + 1)
          loop-passed e = rw (add-one k) (record { all = inv.all; within = m; rest = rw e at turn })

          pub loop-collides : (i n : ℕ) → x ≡ pair i n → ReadInto (through (accepted (table_in c))) (Err (naming 9 k i n)) c
          loop-collides i n e = sym (rw e at turn)

      pub loops-done : l ≤ k → ReadInto (through (accepted (table_in c))) (Ok tt) c
      unfolding serial_from
      loops-done m = let e : l - k ≡ 0 = omega arith in (sym (rw e at inv.rest), h)

-- A WHOLE TABLE, by what its reading answers
module _ (c : Store) (s : List ℕ) where
  pub refused-reading : (r : Refusal) → reading s ≡ refused r → table s ≡ refused r
  unfolding table through
  refused-reading r e = ap through e

  pub checked : reading s ≡ accepted (table_in c) → (q : Result (Unit {0}) Refusal) → ReadInto (through (accepted (table_in c))) q c → ReadInto (table s) q c
  unfolding table
  checked e q h = subst (λ (a : Answer). ReadInto (through a) q c) (sym e) h
