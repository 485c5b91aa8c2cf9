-- A record in bytes, as docs/TABLE.md lays it out: numbers are little-endian; an offset is a signed 16-bit number, the rest are unsigned.
use Rattle.std.specs.Prelude.{ℕ, ◌+◌, ◌*◌, ◌<◌, ◌≡◌, ◌⊎◌, cond, List, [], ◌∷◌, take, drop, ltb, ℤ, pos, negsuc, ◌+ℤ◌, ◌-ℤ◌, ◌≤ℤ◌, ◌<ℤ◌}
use Rattle.records.specs.declared.Record.{Record}
use Rattle.records.specs.declared.Record.TheVariants.{Unknown, Array, Loop, Read, Constant, Operation, End, Statement}
use Rattle.records.specs.Bytes.{byte}

-- little-endian: each byte counts 256 times as much as the one before it
abbrev pub little_endian : List ℕ → ℕ
little_endian [] = 0
little_endian (b ∷ bs) = b + 256 * little_endian bs

-- the number in the n bytes from a place on
abbrev pub number_in : List ℕ → ℕ → ℕ → ℕ
number_in s at n = little_endian (take n (drop at s))

-- a signed 16-bit number, in two's complement: what is not below 32,768 stands for 65,536 less
abbrev pub signed : ℕ → ℤ
signed n = cond (ltb n 32768) (pos n) (pos n -ℤ pos 65536)

-- an offset v is kept with 255 added; what is kept of one that is not in −255 to 255 (negsuc 254 is −255) is above 510
abbrev pub Kept : ℤ → ℕ → Type 0
Kept v o = ((negsuc 254 ≤ℤ v) × (v ≤ℤ pos 255) × (pos o ≡ v +ℤ pos 255)) ⊎ (((v <ℤ negsuc 254) ⊎ (pos 255 <ℤ v)) × (510 < o))

-- the record at a place: its kind byte, and its fields in byte order
abbrev pub At : List ℕ → ℕ → Record → Type 0
At s p Unknown = (byte s p < 1) ⊎ (7 < byte s p)
At s p (Array n) = (byte s p ≡ 1) × (n ≡ number_in s (p + 1) 4)
At s p (Loop f l q o) =
    (byte s p ≡ 2) × (f ≡ number_in s (p + 1) 4) × (l ≡ number_in s (p + 5) 4) × (q ≡ number_in s (p + 9) 1) × Kept (signed (number_in s (p + 10) 2)) o
At s p (Read q o) = (byte s p ≡ 3) × (q ≡ number_in s (p + 1) 1) × Kept (signed (number_in s (p + 2) 2)) o
At s p (Constant n) = (byte s p ≡ 4) × (n ≡ number_in s (p + 1) 4)
At s p (Operation o) = (byte s p ≡ 5) × (o ≡ number_in s (p + 1) 1)
At s p End = byte s p ≡ 6
At s p (Statement q o) = (byte s p ≡ 7) × (q ≡ number_in s (p + 1) 1) × Kept (signed (number_in s (p + 2) 2)) o
