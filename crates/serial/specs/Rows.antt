-- What the code of ground 9 asks of a loop's rows.
use Rattle.std.specs.Prelude.{ℕ, ◌+◌, ◌≤◌, ◌<◌, ◌≡◌, ◌⊎◌, Bool, false, not, cond, ◌&&◌, List, Option, None, Some, eqb, ltb, length, get_or, set}
use Rattle.model.specs.declared.Reference.{Reference}
use Rattle.records.specs.declared.storage.Store.{Store}
use Rattle.reader.specs.Store.{first_at, last_at, start_at, kind_at, array_at, value_at}
use Rattle.reader.specs.Stored.{Row}
use Rattle.reader.specs.Rows.{ref_in, row_refs, refs_in}
use Rattle.serial.specs.declared.LoopRows.{LoopRows}
use Rattle.serial.specs.Serial.{pair, collides, pair_hit}

-- the rows of loop k
abbrev pub rows_of : Store → ℕ → LoopRows
rows_of c k = record { from = start_at c k; past = start_at c (k + 1); first = first_at c k; last = last_at c k }

-- what is known of a loop's rows: there is one, they end before the last row, and each is in order
pub record Known (c : Store) (rows : LoopRows) : Type 0 where
  pub some : rows.from < rows.past
  pub few : rows.past ≤ 576
  pub each : (r : ℕ) → r < rows.past → Row c r

module _ (c : Store) (f l : ℕ) where
  -- x and the reference of row r, if it has one
  abbrev pub collides_row : Reference → ℕ → Bool
  collides_row x r = cond (ltb (kind_at c r) 2) (collides f l x (ref_in c 0 r)) false

  -- row o is behind `row`, and before `past`
  abbrev pub Behind : (row past o : ℕ) → Type 0
  Behind row past o = (row < o) × (o < past)

  -- none between the rows `row` and o is a destination's
  abbrev pub OnlyReads : (row o : ℕ) → Type 0
  OnlyReads row o = (i : ℕ) → row < i → i < o → kind_at c i ≡ 1 → ⊥

  -- the first row behind `row` that collides with it, if there is one
  abbrev pub Partner : (row past : ℕ) → Option ℕ → Type 0
  Partner row past None = (n : ℕ) → pair_hit f l (refs_in c 0 row past) n ≡ pair_hit f l (refs_in c 0 (row + 1) past) (n + length (row_refs c 0 row))
  Partner row past (Some o) = Behind row past o × ((n : ℕ) → pair_hit f l (refs_in c 0 row past) n ≡ pair n (n + length (refs_in c 0 row o)))

  -- the first row behind `row` that is a destination's or collides with it, if there is one
  abbrev pub PartnerOrDestination : (row past : ℕ) → Option ℕ → Type 0
  PartnerOrDestination row past None = OnlyReads row past × Partner row past None
  PartnerOrDestination row past (Some o) = Behind row past o × OnlyReads row o × ((kind_at c o ≡ 1 → ⊥) → Partner row past (Some o))

module _ (c : Store) where
  -- for each array an offset at which it is stored, if it is: a destination's row sets that of its array
  unfoldable pub with_offset : ℕ → List (Option ℕ) → List (Option ℕ)
  with_offset row os = cond (eqb (kind_at c row) 1) (set os (array_at c row) (Some (value_at c row))) os

  -- the offset that row i's array has there
  abbrev pub offset_of : List (Option ℕ) → ℕ → Option ℕ
  offset_of os i = get_or os (array_at c i) None

  -- these are such offsets of the rows from `from` up to `past`
  pub record StoredAt (from past : ℕ) (os : List (Option ℕ)) : Type 0 where
    pub long : length os ≡ 16
    pub some : (i : ℕ) → from ≤ i → i < past → kind_at c i ≡ 1 → offset_of os i ≡ None → ⊥
    pub only : (q : ℕ) → q < 16 → (get_or os q None ≡ None)
        ⊎ ((i : ℕ) × (from ≤ i) × (i < past) × (kind_at c i ≡ 1) × (array_at c i ≡ q) × (Some (value_at c i) ≡ get_or os q None))

  -- row i is a reference to an array that is stored, at another offset
  abbrev pub other_than : ℕ → Option ℕ → Bool
  other_than v None = false
  other_than v (Some o) = not (eqb o v)

  unfoldable pub differs : List (Option ℕ) → ℕ → Bool
  differs os i = other_than (value_at c i) (offset_of os i) && ltb (kind_at c i) 2
