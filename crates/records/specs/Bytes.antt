-- Little-endian numbers in a row of bytes; the kinds of records, their body lengths and their fields.
use Rattle.std.specs.Prelude.{ℕ, ◌+◌, ◌*◌, ◌%◌, List, [], ◌∷◌, get_or}
use Rattle.records.specs.declared.Kind.{Kind}
use Rattle.records.specs.declared.Kind.TheVariants as kind
use Rattle.records.specs.declared.Record.{Record}
use Rattle.records.specs.declared.Record.TheVariants.{Unknown, Array, Loop, Read, Constant, Operation, End, Statement}

abbrev pub byte : List ℕ → ℕ → ℕ
byte s at = get_or s at 0

unfoldable pub two : List ℕ → ℕ → ℕ
two s at = byte s at + 256 * byte s (at + 1)

unfoldable pub four : List ℕ → ℕ → ℕ
four s at = two s at + 65536 * two s (at + 2)

-- an offset is a signed 16-bit number o, kept as o + 255: what is out of −255 to 255 is above 510
unfoldable pub offset : List ℕ → ℕ → ℕ
offset s at = (two s at + 255) % 65536

-- the kinds 1 to 7
abbrev pub kinds : List Kind
kinds = kind.Unknown ∷ kind.Array ∷ kind.Loop ∷ kind.Read ∷ kind.Constant ∷ kind.Operation ∷ kind.End ∷ kind.Statement ∷ []

unfoldable pub kind_of : ℕ → Kind
kind_of b = get_or kinds b kind.Unknown

-- the body lengths stand in a table indexed by kind
abbrev pub body_lengths : List ℕ
body_lengths = 0 ∷ 4 ∷ 11 ∷ 3 ∷ 4 ∷ 1 ∷ 0 ∷ 3 ∷ []

unfoldable pub body_length : ℕ → ℕ
body_length b = get_or body_lengths b 0

-- the fields of the body that starts at b
unfoldable pub record_of : Kind → List ℕ → ℕ → Record
record_of kind.Unknown s b = Unknown
record_of kind.Array s b = Array (four s b)
record_of kind.Loop s b = Loop (four s b) (four s (b + 4)) (byte s (b + 8)) (offset s (b + 9))
record_of kind.Read s b = Read (byte s b) (offset s (b + 1))
record_of kind.Constant s b = Constant (four s b)
record_of kind.Operation s b = Operation (byte s b)
record_of kind.End s b = End
record_of kind.Statement s b = Statement (byte s b) (offset s (b + 1))

-- the record whose kind byte is at a place
unfoldable pub record_at : List ℕ → ℕ → Record
record_at s at = record_of (kind_of (byte s at)) s (at + 1)
