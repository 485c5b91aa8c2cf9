-- A record as bytes: one byte of kind, then a body. Numbers are little-endian; an offset is a signed 16-bit number, the rest are unsigned.
use Rattle.std.specs.Prelude.{ℕ, ◌+◌, ◌/◌, ◌%◌, ◌<◌, List, [], ◌∷◌, ◌++◌}
use Rattle.records.specs.declared.Record.{Record}
use Rattle.records.specs.declared.Record.TheVariants.{Unknown, Array, Loop, Read, Constant, Operation, End, Statement}
use Rattle.records.specs.Bytes.{byte}

-- a number in two bytes and in four, the low ones first. (What is too large for them is left to the last, which is then no byte.)
unfoldable pub in_two : ℕ → List ℕ
in_two n = (n % 256) ∷ (n / 256) ∷ []

unfoldable pub in_four : ℕ → List ℕ
in_four n = in_two (n % 65536) ++ in_two (n / 65536)

-- an offset o is kept as o + 255, and written as o in two's complement: where o is below 0 as 65,536 + o
unfoldable pub in_offset : ℕ → List ℕ
in_offset o = in_two ((o + 65281) % 65536)

-- the kinds 1 to 7, each with its fields in order. (Unknown stands for every byte that is no kind: 0 is one.)
unfoldable pub encode : Record → List ℕ
encode Unknown = 0 ∷ []
encode (Array n) = 1 ∷ in_four n
encode (Loop first last array offset) = 2 ∷ (in_four first ++ (in_four last ++ (array ∷ in_offset offset)))
encode (Read array offset) = 3 ∷ array ∷ in_offset offset
encode (Constant n) = 4 ∷ in_four n
encode (Operation o) = 5 ∷ o ∷ []
encode End = 6 ∷ []
encode (Statement array offset) = 7 ∷ array ∷ in_offset offset

-- a row of records
unfoldable pub encode_all : List Record → List ℕ
encode_all [] = []
encode_all (r ∷ rs) = encode r ++ encode_all rs

-- every element is a byte. (Past the last one `byte` reads 0.)
abbrev pub Bytes : List ℕ → Type 0
Bytes s = (k : ℕ) → byte s k < 256

-- the fields fit their bytes; only an offset that does not is read as another
abbrev pub OffsetFits : Record → Type 0
OffsetFits Unknown = Unit {0}
OffsetFits (Array n) = Unit {0}
OffsetFits (Loop first last array offset) = offset < 65536
OffsetFits (Read array offset) = offset < 65536
OffsetFits (Constant n) = Unit {0}
OffsetFits (Operation o) = Unit {0}
OffsetFits End = Unit {0}
OffsetFits (Statement array offset) = offset < 65536

abbrev pub FieldsFit : Record → Type 0
FieldsFit Unknown = Unit {0}
FieldsFit (Array n) = n < 4294967296
FieldsFit (Loop first last array offset) = (first < 4294967296) × (last < 4294967296) × (array < 256)
FieldsFit (Read array offset) = array < 256
FieldsFit (Constant n) = n < 4294967296
FieldsFit (Operation o) = o < 256
FieldsFit End = Unit {0}
FieldsFit (Statement array offset) = array < 256
