-- The tests of one record, in docs/TABLE.md's order. 0: none of the grounds holds.
use Rattle.std.specs.Prelude.{ℕ, ◌+◌, Bool, true, false, not, List, get_or, length, ltb, leb, eqb, Result, Ok, Err}
use Rattle.refusals.specs.declared.Ground.{Ground}
use Rattle.refusals.specs.Refusals.{met, number_of}
use Rattle.records.specs.declared.Kind.{Kind}
use Rattle.records.specs.declared.Kind.TheVariants as kind
use Rattle.records.specs.declared.Record.{Record}
use Rattle.records.specs.declared.Record.TheVariants.{Unknown, Array, Loop, Read, Constant, Operation, End, Statement}
use Rattle.records.specs.declared.Summary.{Summary}
use Rattle.records.specs.declared.Tested.{Tested}
use Rattle.records.specs.declared.Tested.TheVariants.{Refused, Passed, Ended}
use Rattle.records.specs.Bytes.{byte, kind_of, body_length, record_at}
use Rattle.records.specs.History.{operands}

infixr 20 ◌if◌else◌
abbrev pub ◌if◌else◌ : ℕ → Bool → ℕ → ℕ
◌if◌else◌ g true r = g
◌if◌else◌ g false r = r

-- what code answers of tests, as a number: that of the ground which they meet, 0 where they meet none
abbrev pub number_met : {T : Type 0} → Result T Ground → ℕ
number_met (Ok t) = 0
number_met (Err g) = number_of g

-- 2; then 6 for a body left unfinished; then 4 for one array, loop, item or statement too many
unfoldable pub early : Kind → Summary → ℕ
early kind.Unknown t = 2
early kind.Array t = 2 if ltb 0 t.loops else 4 if leb 16 t.arrays else 0
early kind.Loop t = 6 if not (eqb t.waiting 1) else 4 if leb 16 t.loops else 0
early kind.Read t = 2 if eqb t.loops 0 else 4 if leb 32 t.items else 0
early kind.Constant t = 2 if eqb t.loops 0 else 4 if leb 32 t.items else 0
early kind.Operation t = 2 if eqb t.loops 0 else 4 if leb 32 t.items else 0
early kind.End t = 2 if eqb t.loops 0 else 6 if not (eqb t.waiting 1) else 0
early kind.Statement t = 2 if eqb t.loops 0 else 6 if not (eqb t.waiting 1) else 4 if leb 4 t.statements else 0

-- 7: some iteration from first to last, at an offset, reaches outside n elements
unfoldable pub edge : ℕ → ℕ → ℕ → ℕ → ℕ
edge first last o n = 7 if ltb (first + o) 255 else 7 if leb (n + 255) (last + o) else 0

-- fields in byte order (3 and 5), the element total (4), 6, 7; the arrays' lengths are ns
unfoldable pub fields : Record → Summary → List ℕ → ℕ
fields Unknown t ns = 0
fields (Array n) t ns = 3 if eqb n 0 else 3 if ltb 65536 n else 4 if ltb 262144 (t.elements + n) else 0
fields (Loop f l q o) t ns =
    3 if ltb 131071 l else 3 if ltb l f else 5 if leb t.arrays q else 3 if ltb 510 o else edge f l o (get_or ns q 0)
fields (Read q o) t ns =
    5 if leb t.arrays q else 3 if ltb 510 o else 6 if leb 8 t.waiting else edge t.first t.last o (get_or ns q 0)
fields (Constant n) t ns = 6 if leb 8 t.waiting else 0
fields (Operation o) t ns = 3 if eqb o 0 else 3 if ltb 5 o else 6 if ltb t.waiting (operands o) else 0
fields End t ns = 0
fields (Statement q o) t ns = 5 if leb t.arrays q else 3 if ltb 510 o else edge t.first t.last o (get_or ns q 0)

-- a ground, or where it is none another
abbrev pub or_else : ℕ → ℕ → ℕ
or_else g r = r if eqb g 0 else g

-- the ground that the record at a place meets: an absent kind byte is 1; then 2, 6, 4; then 1; then the fields
unfoldable pub ground : List ℕ → ℕ → Summary → List ℕ → ℕ
ground s at t ns =
    1 if leb (length s) at else
    or_else (early (kind_of (byte s at)) t)
    (1 if ltb (length s) (at + 1 + body_length (byte s at)) else fields (record_at s at) t ns)

-- a record that meets none, and the place after it: the end record ends the table. (A record of unknown kind is 2, and never comes here.)
unfoldable pub passed : Record → ℕ → Tested
passed Unknown n = Passed Unknown n
passed (Array m) n = Passed (Array m) n
passed (Loop f l q o) n = Passed (Loop f l q o) n
passed (Read q o) n = Passed (Read q o) n
passed (Constant m) n = Passed (Constant m) n
passed (Operation o) n = Passed (Operation o) n
passed End n = Ended n
passed (Statement q o) n = Passed (Statement q o) n

abbrev pub pick : Bool → Tested → Tested → Tested
pick true a b = a
pick false a b = b

-- the whole test of the record at a place
unfoldable pub tested : List ℕ → ℕ → Summary → List ℕ → Tested
tested s at t ns =
    pick (eqb (ground s at t ns) 0) (passed (record_at s at) (at + 1 + body_length (byte s at))) (Refused (met (ground s at t ns) at))
