-- The invariant of the reading, and the turns of its loop.
use Prim.Native.Nat.{ℕ, suc, ◌+◌, ◌-◌, ◌≤◌, ◌<◌}
use native.Mathlib.Omega.{arith}
use mathlib.Core.Path.{◌≡◌, refl, sym, ap, subst, ◌∙◌}
use mathlib.Core.List.{List, [], ◌∷◌}
use lib.ListN.{length, get_or}
use lib.Seq.{get_or-take}
use borrow.Author.Tests.{lt-ltb, le-ltb}
use Rattle.records.specs.declared.Record.{Record}
use Rattle.records.specs.declared.Record.TheVariants as rec
use Rattle.records.specs.declared.storage.Store.{Store}
use Rattle.records.specs.declared.Summary.{Summary}
use Rattle.records.specs.declared.Tested.{Tested}
use Rattle.records.specs.declared.Tested.TheVariants as found
use Rattle.records.specs.History.{summary, lengths, advanced, blank}
use Rattle.records.specs.Grounds.{tested}
use Rattle.records.specs.Clear.{Room}
use Rattle.records.proofs.ClearLaws.{clear_room}
use Rattle.records.proofs.Outcome.{Whole, passed-whole, tested-same}
use Rattle.refusals.specs.declared.Refusal.{Refusal}
use Rattle.std.specs.Prelude.{Ok, Err}
use Rattle.refusals.specs.Refusals.{met}
use Rattle.refusals.specs.Answers.{accepted}
use Rattle.reader.specs.Reading.{follow, read_from, reading, table_of}
use Rattle.reader.specs.Store.{start_at, kept, rows_after, table_at, with_counts, Places, ArrayFits}
use Rattle.reader.specs.ReadInto.{ReadInto}
use Rattle.reader.specs.Stored.{Stored, InPlace}
use Rattle.reader.specs.StoredLaws.{stored-all, stored-start, kept_small, kept-stored, counted-table, counted-holds}

-- the records before `at` have been read, and the rest from there gives the whole reading
pub record Inv (s : List ℕ) (c : Store) (t : Summary) (at rows : ℕ) : Type 0 where
  pub rs : List Record
  pub left : ℕ
  pub summed : t ≡ summary rs
  pub rest : read_from left s at rs ≡ reading s
  pub here : at ≤ length s
  pub fuel : length s < at + left
  pub stored : Stored c rs rows

pub start : (s : List ℕ) (c : Store) (t : Summary) → t ≡ blank → start_at c 0 ≡ 0 → Inv s c t 0 0
unfolding reading summary
start s c t e f = record {
  rs = [];
  left = suc (length s);
  summed = e;
  rest = refl;
  here = omega arith;
  fuel = omega arith;
  stored = stored-start c f;
}

module _ (s : List ℕ) (c : Store) (t : Summary) (at rows : ℕ) (inv : Inv s c t at rows) where
  open inv use {rs, left, summed, rest, here, fuel, stored}

  pub places : Places t rows
  places = rw summed (record { arrays = stored.kept.few-arrays; loops = stored.kept.few-loops; rows = stored.kept.few-rows })

  lens_same : (q : ℕ) → q < (summary rs).arrays → get_or c.lengths q 0 ≡ get_or (lengths rs) q 0
  lens_same q l = sym (get_or-take (summary rs).arrays c.lengths q 0 l) ∙ ap (λ (ns : List ℕ). get_or ns q 0) stored.lens

  -- what the code found is what the definition finds
  module _ (x : Tested) (answered : x ≡ tested s at t c.lengths) where
    find : tested s at (summary rs) (lengths rs) ≡ x
    find =
        sym (answered ∙ ap (λ (u : Summary). tested s at u c.lengths) summed ∙ tested-same (summary rs) c.lengths (lengths rs) lens_same s at)

    -- a turn of the definition
    turn : (y : Tested) → x ≡ y → follow s rs (λ r n. read_from (left - 1) s n (r ∷ rs)) y ≡ reading s
    unfolding read_from
    turn y e = let f : left ≡ suc (left - 1) = omega arith in rw (find, e) at (subst (λ (n : ℕ). read_from n s at rs ≡ reading s) f rest)

    pub turn-refused : (r : Refusal) → x ≡ found.Refused r → ReadInto (reading s) (Err r) c
    unfolding follow
    turn-refused r e =
        sym (turn (found.Refused r) e)

    pub turn-tail : (n : ℕ) → x ≡ found.Ended n → n < length s → ReadInto (reading s) (Err (met 8 n)) c
    unfolding follow
    turn-tail n e l = sym (rw (lt-ltb _ _ l) at (turn (found.Ended n) e))

    pub turn-ended : (n : ℕ) (d : Store) → x ≡ found.Ended n → length s ≤ n → d ≡ with_counts t.arrays t.loops c → ReadInto (reading s) (Ok tt) d
    unfolding follow
    turn-ended n d e h f =
        rw f (
          sym (rw (le-ltb _ _ h) at (turn (found.Ended n) e)) ∙ ap accepted (sym (counted-table c t.arrays t.loops rows here-kept ∙ table)),
          counted-holds c t.arrays t.loops rows here-kept,
        )
      where
        here-kept : InPlace c t.arrays t.loops rows
        here-kept = rw summed stored.kept

        table : table_at c t.arrays t.loops ≡ table_of rs
        table = rw (summed, stored.lens, stored-all c rs rows stored)

    module _ (r : Record) (n : ℕ) (e : x ≡ found.Passed r n) where
      whole : Whole s at (summary rs) (lengths rs) r n × (r ≡ rec.End → ⊥)
      whole = passed-whole s at (summary rs) (lengths rs) r n (find ∙ e)

      pub passed-room : Room r t
      passed-room = rw summed (clear_room r (summary rs) (lengths rs) whole.0.clear)

      -- the place after a record is further on
      pub further : (at < n) × (n ≤ length s)
      further = let w = whole.0 in (omega (arith, w.next), w.fits)

      pub passed-places : Places t rows × (rows_after r rows ≤ 576) × ArrayFits r
      passed-places =
          let clear = whole.0.clear in
          (places, (kept-stored c rs rows stored r clear whole.1).kept.few-rows, kept_small c rs rows stored r clear)

      pub turn-passed : (d : Store) (u : Summary) (m : ℕ) → d ≡ kept r t rows c → u ≡ advanced r t → m ≡ rows_after r rows → Inv s d u n m
      unfolding summary follow
      turn-passed d u m f g h = record {
        rs = r ∷ rs;
        left = left - 1;
        summed = g ∙ ap (advanced r) summed;
        rest = turn (found.Passed r n) e;
        here = further.1;
        fuel = omega (arith, further.0);
        stored = rw (f, h, summed) (kept-stored c rs rows stored r whole.0.clear whole.1);
      }
