-- The places of records, as far as the bytes alone say.
use Rattle.std.specs.Prelude.{ℕ, ◌+◌, ◌≤◌, ◌≡◌, List, [], ◌∷◌, length}
use Rattle.records.specs.declared.Record.{Record}
use Rattle.records.specs.declared.Record.TheVariants.{Unknown, End}
use Rattle.records.specs.Bytes.{byte, body_length, record_at}

-- the place after the record at p: a byte of kind, then its body
abbrev pub after : List ℕ → ℕ → ℕ
after s p = p + 1 + body_length (byte s p)

-- the bytes before p are the whole records rs, the latest first, all of known kind and none of them an end record
pub data Records (s : List ℕ) : ℕ → List Record → Type 0 where
  start : Records s 0 []
  next : {p : ℕ} {rs : List Record} → Records s p rs → after s p ≤ length s → (record_at s p ≡ Unknown → ⊥) → (record_at s p ≡ End → ⊥)
      → Records s (after s p) (record_at s p ∷ rs)
