-- References in columns: each has four numbers, at its position in each of four columns of 576.
use Rattle.std.specs.Prelude.{ℕ, zero, suc, ◌≡◌, ◌⊎◌, Bool, cond, List, [], ◌∷◌, eqb, length, get_or, set, replicate}
use Rattle.model.specs.declared.Reference.{Reference}
use Rattle.columns.specs.declared.Columns.{Columns}

-- THE LAYOUT: its array; its array again where it stores, and where it reads 16, which is no array's number; its loop; its offset
module _ (c : Columns) where
  abbrev pub array_of : ℕ → ℕ
  array_of i = get_or c.arrays i 0

  abbrev pub stored_of : ℕ → ℕ
  stored_of i = get_or c.stored i 0

  abbrev pub loop_of : ℕ → ℕ
  loop_of i = get_or c.loops i 0

  abbrev pub offset_of : ℕ → ℕ
  offset_of i = get_or c.offsets i 0

  -- the reference at position i
  abbrev pub ref_at : ℕ → Reference
  ref_at i = record { number = loop_of i; array = array_of i; offset = offset_of i; stores = eqb (stored_of i) (array_of i) }

  -- the n references from position i on
  unfoldable pub refs_from : ℕ → ℕ → List Reference
  refs_from i zero = []
  refs_from i (suc n) = ref_at i ∷ refs_from (suc i) n

  -- the second column has at i what it should
  abbrev pub Marked : ℕ → Type 0
  Marked i = (stored_of i ≡ array_of i) ⊎ (stored_of i ≡ 16)

  -- each column has 576 numbers
  pub record Sized : Type 0 where
    pub arrays : length c.arrays ≡ 576
    pub stored : length c.stored ≡ 576
    pub loops : length c.loops ≡ 576
    pub offsets : length c.offsets ≡ 576

  -- the column in which the partners of a destination, or of a read, have its array
  abbrev pub searched_in : Bool → List ℕ
  searched_in stores = cond stores c.arrays c.stored

-- before any reference is put
abbrev pub no_references : Columns
no_references = record { arrays = replicate 576 0; stored = replicate 576 0; loops = replicate 576 0; offsets = replicate 576 0 }

-- what stands in the second column for y
abbrev pub stored_as : Reference → ℕ
stored_as y = cond y.stores y.array 16

-- y put at position n
unfoldable pub with_reference : ℕ → Reference → Columns → Columns
with_reference n y c = record {
  arrays = set c.arrays n y.array;
  stored = set c.stored n (stored_as y);
  loops = set c.loops n y.number;
  offsets = set c.offsets n y.offset;
}
