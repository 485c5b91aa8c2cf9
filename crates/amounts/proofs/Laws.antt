-- The walk as the code makes it: over pairs, over the rows of a loop, and over the loops.
use Prim.Native.Nat.{ℕ, suc, ◌+◌, ◌-◌, max, ◌≤◌, ◌<◌}
use mathlib.Core.Path.{◌≡◌, refl, sym, ap, subst, ◌∙◌}
use mathlib.Core.Bool.{Bool, true, false}
use mathlib.Core.List.{List, [], ◌∷◌, ◌++◌, append-nil}
use mathlib.Core.List.{Memᴰ as Mem}
use native.Mathlib.Decide.{ℕ_discrete}
use native.Mathlib.Numerals.{add-one}
use native.Mathlib.Omega.{arith}
use lib.ListN.{length, get_or, set, take, length-append, length-replicate}
use lib.Seq.{take-append_seam}
use Rattle.order.specs.Sequences.{joined, run_all}
use Rattle.order.specs.Lists.{mem-joined, joined-split}
use Rattle.order.specs.Reorder.{run_all-append}
use Rattle.model.specs.declared.Reference.{Reference}
use Rattle.model.specs.Table.{Table, count}
use Rattle.model.specs.References.{touch, refs, all_refs}
use Rattle.records.specs.declared.storage.Store.{Store}
use Rattle.reader.specs.StoreLaws.{array_small}
use Rattle.reader.specs.Store.{first_at, last_at, start_at, kind_at, value_at, table_in}
use Rattle.reader.specs.Held.{Held, first-held, last-held, count_held, few-loops, few-rows}
use Rattle.reader.specs.Rows.{ref_in, refs_in}
use Rattle.reader.specs.RowLaws.{row-reference, row-none, refs-next as rows_next}
use Rattle.overlap.specs.Overlap.{overlap}
use Rattle.overlap.proofs.OverlapLaws.{overlap-meeting}
use Rattle.chains.specs.Dependence.{meet_in, backward, forward}
use Rattle.chains.proofs.DependenceLaws.{dependence-bounds, none-untouched}
use Rattle.chains.specs.Graph.{Graph}
use Rattle.chains.specs.TableGraph.{graph}
use Rattle.chains.specs.Walk.{shifts, peels}
use Rattle.chains.proofs.WalkLaws.{zeros}
use Rattle.chains.specs.Steps.{Placed, Pair, at, pair_of, placed_from, pairs_to, steps_to, steps, raised_by, Following, Numbers, take_up, step, no_numbers, walked}
use Rattle.chains.proofs.StepLaws.{following-first, following-next, made-steps, placed-append, steps_to-append, steps_to-one, raised_by-length, raised_by-met, raised_by-none, walked-numbers}
use Rattle.chains.proofs.Bounds.{raised_by-small}
use Rattle.chains.proofs.Tables.{refs-number, refs-all_refs, all_refs-below}
use Rattle.amounts.specs.Rows.{past_row, past-ahead, past-few, row_in, past_next, joined-few, past-few-references, in-range}
use Rattle.columns.specs.declared.Columns.{Columns}
use Rattle.columns.specs.Columns.{ref_at, refs_from, Marked, no_references, with_reference}
use Rattle.columns.specs.ColumnLaws.{with-sized, other-marked, here-marked, refs-with, refs-length, refs-mem, refs-first, refs-next, refs_end}
use Rattle.amounts.specs.Walked.{ReferenceFits, Pairable, Earlier, NextStep, SomeNext, Taken, Bounded, numbers_in, Walked}

pub count-few : {c : Store} → Held c → count (table_in c) ≤ 16
count-few h = omega (arith, count_held h, few-loops h)

-- where a loop's rows are, and how many loops there are: what is asked where code reads a row or a loop
pub ruleset row_bounds = (past-few, count-few)

-- ONE PAIR
-- the test of two references, on the bounds as they are stored
pub meet-stored : {c : Store} → Held c → (x y : Reference) → ReferenceFits (table_in c) x → ReferenceFits (table_in c) y → (f l g m : ℕ)
    → f ≡ first_at c x.number → l ≡ last_at c x.number → g ≡ first_at c y.number → m ≡ last_at c y.number → (b : Bool)
    → b ≡ overlap f l x.offset g m y.offset → b ≡ meet_in (table_in c) x y
meet-stored h x y u v f l g m a d p q b e =
    e
    ∙ rw (
      a ∙ sym (first-held h x.number u.number),
      d ∙ sym (last-held h x.number u.number),
      p ∙ sym (first-held h y.number v.number),
      q ∙ sym (last-held h y.number v.number),
    ) (overlap-meeting _ _ _ _ _ _)

-- references to one array, one of them storing, the first in the earlier loop: where they meet, and where they do not
module _ (t : Table) (amount : Reference → Reference → ℕ) (x y : Reference) (s : List ℕ) (l : x.number < y.number) (e : touch x y ≡ true) where
  pub raised-met : (w d v : ℕ) → meet_in t x y ≡ true → w ≡ get_or s x.number 0 → d ≡ amount x y → v ≡ max (get_or s y.number 0) (w + d)
      → set s y.number v ≡ raised_by (graph t) amount x y s
  raised-met w d v m p q r = rw (r, p, q) (sym (raised_by-met (graph t) amount x y s (dependence-bounds t x y l e ∙ m)))

  pub raised-apart : meet_in t x y ≡ false → s ≡ raised_by (graph t) amount x y s
  raised-apart m = sym (raised_by-none (graph t) amount x y s (dependence-bounds t x y l e ∙ m))

-- other references leave the numbers as they are
raised-untouched : (t : Table) (amount : Reference → Reference → ℕ) (x y : Reference) (s : List ℕ) → touch x y ≡ false → raised_by (graph t) amount x y s ≡ s
raised-untouched t amount x y s e = raised_by-none (graph t) amount x y s (none-untouched t x y e)

-- a step, of such references and of others
pub taken-touching : (t : Table) (x y : Reference) (s p s' p' : List ℕ) (made : ℕ)
    → (s' ≡ raised_by (graph t) backward x y s) × (p' ≡ raised_by (graph t) forward x y p) → numbers_in s' p' (made + 1) ≡ take_up (graph t) x y (numbers_in s p made)
taken-touching t x y s p s' p' made (e, f) = rw (e, f, add-one made)

pub taken-apart : (t : Table) (x y : Reference) (s p : List ℕ) (made : ℕ) → touch x y ≡ false → numbers_in s p (made + 1) ≡ take_up (graph t) x y (numbers_in s p made)
taken-apart t x y s p made e = taken-touching t x y s p s p made (sym (raised-untouched t backward x y s e), sym (raised-untouched t forward x y p e))

-- what a pair leaves fits
pub raised-bounded : (t : Table) (x y : Reference) (s p : List ℕ) → x.offset ≤ 510 → ReferenceFits t y → Bounded s p
    → Bounded (raised_by (graph t) backward x y s) (raised_by (graph t) forward x y p)
raised-bounded t x y s p l v b = record {
  shifts-long = raised_by-length (graph t) backward x y s ∙ b.shifts-long;
  peels-long = raised_by-length (graph t) forward x y p ∙ b.peels-long;
  shifts-small = raised_by-small backward (graph t) 510 x y s (omega (arith, v.offset)) (omega (arith, v.few, b.shifts-long)) b.shifts-small;
  peels-small = raised_by-small forward (graph t) 510 x y p (omega arith) (omega (arith, v.few, b.peels-long)) b.peels-small;
}

-- PAIRS OF ONE REFERENCE
-- the pairs of y, which is at position n, with the references of the columns from position i on
abbrev pub to_take : (columns : Columns) (from n : ℕ) (y : Reference) (i : ℕ) → List (Pair Reference)
to_take columns from n y i = pairs_to (at n y) (placed_from i (refs_from columns i (from - i)))

-- to take them up, from these numbers, gives what to take up all of them gives
pub record Remaining (t : Table) (columns : Columns) (from : ℕ) (y : Reference) (start : Numbers) (i made : ℕ) (shifts peels : List ℕ) : Type 0 where
  pub bounded : Bounded shifts peels
  pub few : made ≤ start.made + i
  pub past : i ≤ from
  pub next : (n : ℕ) × Following (graph t) made (to_take columns from n y i)
  pub rest : (n : ℕ) → run_all (step (graph t)) (to_take columns from n y i) (numbers_in shifts peels made) ≡ run_all (step (graph t)) (to_take columns from n y 0) start

module _ (t : Table) (columns : Columns) (from : ℕ) (y : Reference) where
  pub remaining-start : (made : ℕ) (shifts peels : List ℕ) → Bounded shifts peels → SomeNext t columns from y made
      → Remaining t columns from y (numbers_in shifts peels made) 0 made shifts peels
  remaining-start made shifts peels b (n, f) =
      let z : from - 0 ≡ from = omega arith in
      record { bounded = b; few = omega arith; past = omega arith; next = (n, rw z f); rest = λ n. refl }

  module _ (start : Numbers) (i made : ℕ) (s p : List ℕ) (l : i < from) (r : Remaining t columns from y start i made s p) where
    following : Following (graph t) made (pair_of (at i (ref_at columns i)) (at r.next.0 y) ∷ pairs_to (at r.next.0 y) (placed_from (suc i) (refs_from columns (suc i) (from - suc i))))
    following = rw (refs-next columns i from l) at r.next.1

    -- the next pair is the next step
    pub remaining-step : NextStep t columns i y made
    remaining-step = (r.next.0, following-first following)

    pub remaining-next : (made' : ℕ) (s' p' : List ℕ) → Pairable t columns i y → numbers_in s' p' made' ≡ take_up (graph t) (ref_at columns i) y (numbers_in s p made)
        → Remaining t columns from y start (i + 1) made' s' p'
    remaining-next made' s' p' h e =
        let counted : made' ≡ made + 1 = omega (arith, ap (λ (q : Numbers). q.made) e) in
        record {
          bounded =
              rw (ap (λ (q : Numbers). q.shifts) e, ap (λ (q : Numbers). q.peels) e)
              (raised-bounded t (ref_at columns i) y s p h.fits.offset h.later r.bounded);
          few = omega (arith, counted, r.few);
          past = omega arith;
          next = (r.next.0, rw (add-one i, counted) (following-next following));
          rest = λ n.
              rw (add-one i)
              (rw e
              (ap (λ (xs : List Reference). run_all (step (graph t)) (pairs_to (at n y) (placed_from i xs)) (numbers_in s p made)) (sym (refs-next columns i from l))
              ∙ r.rest n));
        }

  pub remaining-end : (start : Numbers) (i made : ℕ) (s p : List ℕ) → from ≤ i → Remaining t columns from y start i made s p
      → Taken t columns from y start (numbers_in s p made)
  remaining-end start i made s p l r n =
      ap (λ (xs : List Reference). run_all (step (graph t)) (pairs_to (at n y) (placed_from i xs)) (numbers_in s p made)) (sym (refs_end columns i from l))
      ∙ (let z : from - 0 ≡ from = omega arith in rw z at (r.rest n))

-- THE REFERENCES SO FAR
module _ {c : Store} (h : Held c) (k : ℕ) (l : k < count (table_in c)) where
  -- those of earlier loops
  joined-fits : (x : Reference) → Mem x (joined k (refs (table_in c))) → (x.number < k) × ReferenceFits (table_in c) x
  joined-fits x m =
      let (j, i, n) = mem-joined (refs (table_in c)) k m in
      let e = refs-number (table_in c) j x n in (
        omega arith,
        record { number = omega arith; few = omega (arith, count-few h); offset = in-range h x (refs-all_refs (table_in c) x j n (omega arith)) },
      )

  -- they stand first in the columns
  first-kept : (columns : Columns) (own : List Reference) → refs_from columns 0 (length (joined k (refs (table_in c)) ++ own)) ≡ joined k (refs (table_in c)) ++ own
      → refs_from columns 0 (length (joined k (refs (table_in c)))) ≡ joined k (refs (table_in c))
  first-kept columns own e =
      let xs = joined k (refs (table_in c)) in
      let n = length xs in
      let split : refs_from columns 0 n ++ refs_from columns (0 + n) (length own) ≡ xs ++ own = sym (refs-first columns n (length own) 0) ∙ ap (refs_from columns 0) (sym (length-append xs own)) ∙ e in
      let m : take n (refs_from columns 0 n ++ refs_from columns (0 + n) (length own)) ≡ refs_from columns 0 n =
      ap (λ (i : ℕ). take i (refs_from columns 0 n ++ refs_from columns (0 + n) (length own))) (sym (refs-length columns n 0))
      ∙ take-append_seam (refs_from columns 0 n) (refs_from columns (0 + n) (length own)) in
      sym m ∙ ap (take n) split ∙ take-append_seam xs own

  module _ (own : List Reference) (n : ℕ) (columns : Columns) (a : Numbers) (w : Walked (table_in c) (joined k (refs (table_in c)) ++ own) n columns a) (y : Reference)
      (mine : y.number ≡ k) (array : y.array < 16) (offset : y.offset ≤ 510) where
    y-fits : ReferenceFits (table_in c) y
    y-fits = record { number = omega arith; few = omega (arith, count-few h); offset = offset }

    -- so the next reference is paired with them
    pub earlier-of : (from : ℕ) → from ≡ length (joined k (refs (table_in c))) → Earlier (table_in c) columns from y
    earlier-of from e = record {
      few = omega (arith, joined-few h k (omega arith), few-rows h k (omega arith));
      later = y-fits;
      array = array;
      each = λ x i.
          let (less, fits) = joined-fits (ref_at columns x) (subst (Mem (ref_at columns x)) (first-kept columns own w.kept) (refs-mem columns (length (joined k (refs (table_in c)))) 0 x (omega arith) (omega arith))) in
          record {
            few = omega (arith, joined-few h k (omega arith), few-rows h k (omega arith));
            fits = fits;
            marked = w.marked x (omega (arith, length-append (joined k (refs (table_in c))) own));
            earlier = omega arith;
            later = y-fits;
            array = array;
          };
    }

    -- the steps to it
    steps_next : (n : ℕ) → steps_to (graph (table_in c)) (at n y ∷ []) ≡ pairs_to (at n y) (placed_from 0 (joined k (refs (table_in c))))
    steps_next n =
        let (rest, same, of) = joined-split (refs (table_in c)) k (count (table_in c)) (omega arith) in
        steps_to-one (graph (table_in c)) (at n y) (joined k (refs (table_in c))) rest same (λ x m. omega (arith, (joined-fits x m).0))
        (λ z m. let (j, u, v, i) = of z m in omega (arith, refs-number (table_in c) j z i))

    early : (from : ℕ) → from ≡ length (joined k (refs (table_in c))) → refs_from columns 0 from ≡ joined k (refs (table_in c))
    early from e = rw e (first-kept columns own w.kept)

    -- which are the next ones, where it is the next reference of all
    pub next-steps : (from : ℕ) → from ≡ length (joined k (refs (table_in c))) → (zs : List Reference)
        → all_refs (table_in c) ≡ (joined k (refs (table_in c)) ++ own) ++ (y ∷ zs) → SomeNext (table_in c) columns from y a.made
    unfolding steps
    next-steps from e zs ahead = (
      n,
      record {
        done = steps_to g (placed_from 0 ys);
        rest = steps_to g (placed_from (suc n) zs);
        all =
            ap (λ (rs : List Reference). steps_to g (placed_from 0 rs)) ahead
            ∙ ap (steps_to g) place
            ∙ steps_to-append g (placed_from 0 ys) (at n y ∷ placed_from (suc n) zs)
            ∙ ap (λ (ps : List (Pair Reference)). steps_to g (placed_from 0 ys) ++ ps)
            (steps_to-append g (at n y ∷ []) (placed_from (suc n) zs) ∙ ap (λ (ps : List (Pair Reference)). ps ++ steps_to g (placed_from (suc n) zs)) mine-steps);
        count = omega (arith, ap (λ (q : Numbers). q.made) w.numbers, made-steps g (steps_to g (placed_from 0 ys)) no_numbers);
      },
    )
      where
        g : Graph Reference
        g = graph (table_in c)

        ys : List Reference
        ys = joined k (refs (table_in c)) ++ own

        place : placed_from 0 (ys ++ (y ∷ zs)) ≡ placed_from 0 ys ++ (at n y ∷ placed_from (suc n) zs)
        place = let z : 0 + length ys ≡ n = omega (arith, w.references) in rw z at (placed-append 0 ys (y ∷ zs))

        mine-steps : steps_to g (at n y ∷ []) ≡ pairs_to (at n y) (placed_from 0 (refs_from columns 0 from))
        mine-steps = rw (early from e) (steps_next n)

    -- and what the walk has come to when they are made
    pub walked_next : (from : ℕ) → from ≡ length (joined k (refs (table_in c))) → n < 576 → (columns' : Columns) (d : Numbers)
        → columns' ≡ with_reference n y columns
        → Taken (table_in c) columns from y a d
        → Bounded d.shifts d.peels × (d.made ≤ a.made + 576)
        → Walked (table_in c) ((joined k (refs (table_in c)) ++ own) ++ (y ∷ [])) (n + 1) columns' d
    walked_next from e few columns' d put made (bounded, more) = record {
      sized = rw put (with-sized n y columns w.sized);
      references = omega (arith, w.references, longer);
      kept = rw (put, longer, w.references, add-one (length ys)) (refs-with (length ys) y columns (omega (arith, w.references)) w.sized array ∙ ap (λ (xs : List Reference). xs ++ (y ∷ [])) w.kept);
      marked = λ x i. rw put (mark x (omega (arith, w.references, longer)) (ℕ_discrete x n));
      numbers =
          made n
          ∙ ap (λ (xs : List Reference). run_all (step g) (pairs_to (at n y) (placed_from 0 xs)) (a)) (early from e)
          ∙ ap (run_all (step g) (pairs_to (at n y) (placed_from 0 (joined k (refs (table_in c)))))) w.numbers
          ∙ ap (λ (ps : List (Pair Reference)). run_all (step g) ps (run_all (step g) (steps_to g (placed_from 0 ys)) no_numbers)) (sym (steps_next n))
          ∙ sym (run_all-append (step g) (steps_to g (placed_from 0 ys)) (steps_to g (at n y ∷ [])) no_numbers)
          ∙ ap (λ (ps : List (Pair Reference)). run_all (step g) ps no_numbers) (sym (steps_to-append g (placed_from 0 ys) (at n y ∷ [])))
          ∙ ap (λ (qs : List (Placed Reference)). run_all (step g) (steps_to g qs) no_numbers) (sym place);
      few = omega (arith, more, w.few);
      bounded = bounded;
    }
      where
        g : Graph Reference
        g = graph (table_in c)

        ys : List Reference
        ys = joined k (refs (table_in c)) ++ own

        longer : length ((joined k (refs (table_in c)) ++ own) ++ (y ∷ [])) ≡ length (joined k (refs (table_in c)) ++ own) + 1
        longer = length-append (joined k (refs (table_in c)) ++ own) (y ∷ [])

        place : placed_from 0 (ys ++ (y ∷ [])) ≡ placed_from 0 ys ++ (at n y ∷ [])
        place =
            let z : 0 + length ys ≡ n = omega (arith, w.references) in
            rw z at (placed-append 0 ys (y ∷ []))

        mark : (x : ℕ) → x ≤ n → Dec (x ≡ n) → Marked (with_reference n y columns) x
        mark x i (yes q) = rw q (here-marked n y columns few w.sized)
        mark x i (no q) = other-marked n y columns x q (w.marked x (omega (arith, w.references)))

-- A ROW OF A LOOP
module _ {c : Store} (h : Held c) (k : ℕ) (l : k < count (table_in c)) (n : ℕ) (columns : Columns) (a : Numbers) (from : ℕ) (e : from ≡ length (joined k (refs (table_in c))))
    (r : ℕ) (u : start_at c k ≤ r) (v : r < start_at c (k + 1)) (w : Walked (table_in c) (past_row c k r) n columns a) where
  pub row-few : n < 576
  row-few = omega (arith, w.references, past-few-references h k r l u, past-few h k l)

  -- a reference
  module _ (q : kind_at c r < 2) where
    offset-here : value_at c r ≤ 510
    offset-here = (row_in h k l r v).offset q

    pub reference-earlier : Earlier (table_in c) columns from (ref_in c k r)
    reference-earlier = earlier-of h k l _ n columns a w (ref_in c k r) refl (array_small c r) offset-here from e

    pub reference-steps : SomeNext (table_in c) columns from (ref_in c k r) a.made
    reference-steps =
        let (rest, same) = past-ahead h k l r u (omega arith) in
        next-steps h k l _ n columns a w (ref_in c k r) refl (array_small c r) offset-here from e (refs_in c k (r + 1) (start_at c (k + 1)) ++ rest)
        (rw (rows_next c k r (start_at c (k + 1)) v, row-reference c k r q) at same)

    pub reference-next : (columns' : Columns) (d : Numbers)
        → columns' ≡ with_reference n (ref_in c k r) columns
        → Taken (table_in c) columns from (ref_in c k r) a d
        → Bounded d.shifts d.peels × (d.made ≤ a.made + 576)
        → Walked (table_in c) (past_row c k (r + 1)) (n + 1) columns' d
    reference-next columns' d put made more =
        rw (past_next h k l r u, row-reference c k r q)
        (walked_next h k l _ n columns a w (ref_in c k r) refl (array_small c r) offset-here from e row-few columns' d put made more)

  -- another item
  pub item-next : 2 ≤ kind_at c r → Walked (table_in c) (past_row c k (r + 1)) n columns a
  item-next none = rw (past_next h k l r u, row-none c k r none, append-nil (past_row c k r)) w

-- the walk before its first step, and after its last
pub walked_start : (t : Table) → Walked t [] 0 no_references no_numbers
unfolding refs_from
walked_start t = record {
  sized = record { arrays = length-replicate {A = ℕ} 576 0; stored = length-replicate {A = ℕ} 576 0; loops = length-replicate {A = ℕ} 576 0; offsets = length-replicate {A = ℕ} 576 0 };
  references = refl;
  kept = refl;
  marked = λ x i. absurd (omega arith);
  numbers = refl;
  few = omega arith;
  bounded = record {
    shifts-long = refl;
    peels-long = refl;
    shifts-small = λ k. rw (zeros 16 k) (omega arith);
    peels-small = λ k. rw (zeros 16 k) (omega arith);
  };
}

pub walked_all : {t : Table} {n : ℕ} {columns : Columns} {a : Numbers} → Walked t (all_refs t) n columns a → a ≡ walked (graph t)
unfolding steps
walked_all w = w.numbers

-- which are the numbers of before
pub walked-amounts : {c : Store} → Held c → (s p : List ℕ) (made : ℕ) → numbers_in s p made ≡ walked (graph (table_in c))
    → (s ≡ shifts (graph (table_in c))) × (p ≡ peels (graph (table_in c)))
walked-amounts {c} h s p made e =
    let same = e ∙ walked-numbers (graph (table_in c)) (all_refs-below (table_in c) (count-few h)) in
    (ap (λ (n : Numbers). n.shifts) same, ap (λ (n : Numbers). n.peels) same)
