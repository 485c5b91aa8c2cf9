-- The tests of the record at a place, in docs/TABLE.md's order. Records are tested left to right; within one: 2, then 6 for a body left
-- unfinished, 4, 1, fields in byte order (3 and 5), the element total (4), 6, 7. An absent kind byte is 1.
use Rattle.std.specs.Prelude.{ℕ, ◌≤◌, ◌<◌, ◌≡◌, ◌⊎◌, List, [], ◌∷◌, ◌++◌, length}
use Rattle.records.specs.declared.Record.{Record}
use Rattle.records.specs.declared.Record.TheVariants.{Unknown, Array, Loop, Read, Constant, Operation, End, Statement}
use Rattle.records.specs.Bytes.{record_at}
use Rattle.grounds.specs.Places.{after, Records}
use Rattle.grounds.specs.Statements.{Misplaced, NotOneLeft, OneTooMany, ManyElements, NinthOrTooFew, OutsideArray}
use Rattle.grounds.specs.Statements.{BadLength, BadLast, BadOffset, BadOperation, NoneNumbered}

-- a test: what it asks, and the ground that holds where it does
pub record Test : Type 1 where
  pub ground : ℕ
  pub holds : Type 0

abbrev pub test : ℕ → Type 0 → Test
test n A = record { ground = n; holds = A }

-- of the record r, after the records rs: 2, then 6 for a body left unfinished, 4
abbrev pub kind_tests : Record → List Record → List Test
kind_tests r rs = test 2 (Misplaced r rs) ∷ test 6 (NotOneLeft r rs) ∷ test 4 (OneTooMany r rs) ∷ []

-- fields in byte order (3 and 5). (Whether first is above last can be told only with last.)
abbrev pub field_tests : Record → List Record → List Test
field_tests Unknown rs = []
field_tests (Array n) rs = test 3 (BadLength n) ∷ []
field_tests (Loop f l q o) rs = test 3 (BadLast l) ∷ test 3 (l < f) ∷ test 5 (NoneNumbered q rs) ∷ test 3 (BadOffset o) ∷ []
field_tests (Read q o) rs = test 5 (NoneNumbered q rs) ∷ test 3 (BadOffset o) ∷ []
field_tests (Constant n) rs = []
field_tests (Operation o) rs = test 3 (BadOperation o) ∷ []
field_tests End rs = []
field_tests (Statement q o) rs = test 5 (NoneNumbered q rs) ∷ test 3 (BadOffset o) ∷ []

-- the element total (4), 6, 7
abbrev pub last_tests : Record → List Record → List Test
last_tests r rs = test 4 (ManyElements r rs) ∷ test 6 (NinthOrTooFew r rs) ∷ test 7 (OutsideArray r rs) ∷ []

-- all tests at the place p of an input s, after the records rs: an absent kind byte is 1; and bytes that end inside the record are
abbrev pub tests : List ℕ → ℕ → List Record → List Test
tests s p rs =
    let r = record_at s p in
    test 1 (length s ≤ p) ∷ (kind_tests r rs ++ (test 1 (length s < after s p) ∷ (field_tests r rs ++ last_tests r rs)))

-- g is the number of the first test that holds; it is 0 where none does
abbrev pub First : List Test → ℕ → Type 0
First [] g = g ≡ 0
First (t ∷ ts) g = (t.holds × (g ≡ t.ground)) ⊎ ((t.holds → ⊥) × First ts g)

-- the first test that holds at the place p, after the records before it, has the number g
abbrev pub FirstAt : List ℕ → ℕ → ℕ → Type 0
FirstAt s p g = (rs : List Record) × Records s p rs × First (tests s p rs) g
