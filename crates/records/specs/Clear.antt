-- What is known of a record that meets no ground: the definitions.
use Rattle.std.specs.Prelude.{ℕ, ◌+◌, ◌≤◌, ◌<◌, ◌≡◌, List, get_or}
use Rattle.records.specs.declared.Kind.{Kind}
use Rattle.records.specs.declared.Kind.TheVariants as kind
use Rattle.records.specs.declared.Record.{Record}
use Rattle.records.specs.declared.Record.TheVariants.{Unknown, Array, Loop, Read, Constant, Operation, End, Statement}
use Rattle.records.specs.declared.Summary.{Summary}
use Rattle.records.specs.History.{operands}

-- the body length of a kind
abbrev pub span_of : Kind → ℕ
span_of kind.Unknown = 0
span_of kind.Array = 4
span_of kind.Loop = 11
span_of kind.Read = 3
span_of kind.Constant = 4
span_of kind.Operation = 1
span_of kind.End = 0
span_of kind.Statement = 3

-- there is room for the record
abbrev pub Room : Record → Summary → Type 0
Room Unknown t = Unit {0}
Room (Array n) t = (t.arrays < 16) × (t.elements + n ≤ 262144)
Room (Loop f l q o) t = t.loops < 16
Room (Read q o) t = (t.items < 32) × (t.waiting < 8)
Room (Constant n) t = (t.items < 32) × (t.waiting < 8)
Room (Operation o) t = (t.items < 32) × (operands o ≤ t.waiting)
Room End t = Unit {0}
Room (Statement q o) t = t.statements < 4

-- no iteration from f to l, at an offset, reaches outside n elements
abbrev pub Within : ℕ → ℕ → ℕ → ℕ → Type 0
Within f l o n = (255 ≤ f + o) × (l + o < n + 255)

-- what is known of a record that meets no ground, after records with the summary t and the arrays' lengths ns
abbrev pub Clear : Record → Summary → List ℕ → Type 0
Clear Unknown t ns = ⊥
Clear (Array n) t ns = (t.loops ≡ 0) × (t.arrays < 16) × (0 < n) × (n ≤ 65536) × (t.elements + n ≤ 262144)
Clear (Loop f l q o) t ns =
    (t.waiting ≡ 1) × (t.loops < 16) × (l ≤ 131071) × (f ≤ l) × (q < t.arrays) × (o ≤ 510) × Within f l o (get_or ns q 0)
Clear (Read q o) t ns =
    (0 < t.loops) × (t.items < 32) × (q < t.arrays) × (o ≤ 510) × (t.waiting < 8) × Within t.first t.last o (get_or ns q 0)
Clear (Constant n) t ns = (0 < t.loops) × (t.items < 32) × (t.waiting < 8)
Clear (Operation o) t ns = (0 < t.loops) × (t.items < 32) × (0 < o) × (o ≤ 5) × (operands o ≤ t.waiting)
Clear End t ns = (0 < t.loops) × (t.waiting ≡ 1)
Clear (Statement q o) t ns =
    (0 < t.loops) × (t.waiting ≡ 1) × (t.statements < 4) × (q < t.arrays) × (o ≤ 510) × Within t.first t.last o (get_or ns q 0)
