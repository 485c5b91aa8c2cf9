-- The grounds 1 to 8, each by itself: what it says of the record at a place and of the records before that place.
use Rattle.std.specs.Prelude.{ℕ, suc, ◌+◌, ◌-◌, ◌≤◌, ◌<◌, ◌≡◌, ◌⊎◌, ◌≢◌, List, [], ◌∷◌, length, get_or}
use Rattle.records.specs.declared.Record.{Record}
use Rattle.records.specs.declared.Record.TheVariants.{Unknown, Array, Loop, Read, Constant, Operation, End, Statement}
use Rattle.records.specs.Bytes.{record_at}
use Rattle.records.specs.History.{lengths, operands}
use Rattle.model.specs.Table.{Item, read, constant, operation}
use Rattle.grounds.specs.Places.{after, Records}

-- WHAT THE RECORDS rs SAY, the latest first

-- how many arrays there are, and how many elements in all
abbrev pub arrays : List Record → ℕ
arrays rs = length (lengths rs)

abbrev pub sum : List ℕ → ℕ
sum [] = 0
sum (n ∷ ns) = n + sum ns

abbrev pub elements : List Record → ℕ
elements rs = sum (lengths rs)

-- how many loops
unfoldable pub loops : List Record → ℕ
loops [] = 0
loops (Unknown ∷ rs) = loops rs
loops (Array n ∷ rs) = loops rs
loops (Loop f l q o ∷ rs) = suc (loops rs)
loops (Read q o ∷ rs) = loops rs
loops (Constant n ∷ rs) = loops rs
loops (Operation o ∷ rs) = loops rs
loops (End ∷ rs) = loops rs
loops (Statement q o ∷ rs) = loops rs

-- the latest loop: its first, its last, the items of its latest statement so far, and those of each statement before it, all the latest first
pub record Latest : Type 0 where
  pub first : ℕ
  pub last : ℕ
  pub body : List Item
  pub bodies : List (List Item)

abbrev pub begun : ℕ → ℕ → Latest
begun f l = record { first = f; last = l; body = []; bodies = [] }

abbrev pub with_item : Item → Latest → Latest
with_item x b = record { first = b.first; last = b.last; body = x ∷ b.body; bodies = b.bodies }

-- a further statement
abbrev pub with_statement : Latest → Latest
with_statement b = record { first = b.first; last = b.last; body = []; bodies = b.body ∷ b.bodies }

unfoldable pub latest : List Record → Latest
latest [] = begun 0 0
latest (Unknown ∷ rs) = latest rs
latest (Array n ∷ rs) = latest rs
latest (Loop f l q o ∷ rs) = begun f l
latest (Read q o ∷ rs) = with_item (read q o) (latest rs)
latest (Constant n ∷ rs) = with_item (constant n) (latest rs)
latest (Operation o ∷ rs) = with_item (operation o) (latest rs)
latest (End ∷ rs) = latest rs
latest (Statement q o ∷ rs) = with_statement (latest rs)

-- how many statements it has, and how many items in all of them
abbrev pub statement_count : List Record → ℕ
statement_count rs = length (latest rs).bodies + 1

abbrev pub items_in : List (List Item) → ℕ
items_in [] = 0
items_in (xs ∷ b) = length xs + items_in b

abbrev pub items : List Record → ℕ
items rs = length (latest rs).body + items_in (latest rs).bodies

-- how many numbers wait after the items of a statement: a read or a constant adds one, an operation takes one or two and adds one
unfoldable pub waiting_after : List Item → ℕ
waiting_after [] = 0
waiting_after (read q o ∷ xs) = waiting_after xs + 1
waiting_after (constant n ∷ xs) = waiting_after xs + 1
waiting_after (operation o ∷ xs) = waiting_after xs - operands o + 1

abbrev pub waiting : List Record → ℕ
waiting rs = waiting_after (latest rs).body

-- WHAT A GROUND SAYS OF A RECORD, after the records rs

-- 2: kind unknown or out of its order, or no array or loop before end
abbrev pub Misplaced : Record → List Record → Type 0
Misplaced Unknown rs = Unit {0}
Misplaced (Array n) rs = 0 < loops rs
Misplaced (Loop f l q o) rs = ⊥
Misplaced (Read q o) rs = loops rs ≡ 0
Misplaced (Constant n) rs = loops rs ≡ 0
Misplaced (Operation o) rs = loops rs ≡ 0
Misplaced End rs = (arrays rs ≡ 0) ⊎ (loops rs ≡ 0)
Misplaced (Statement q o) rs = loops rs ≡ 0

-- 3: a field outside its range, or first above last. (An offset is kept with 255 added.)
abbrev pub BadLength : ℕ → Type 0
BadLength n = (n < 1) ⊎ (65536 < n)

abbrev pub BadLast : ℕ → Type 0
BadLast l = 131071 < l

abbrev pub BadOffset : ℕ → Type 0
BadOffset o = 510 < o

abbrev pub BadOperation : ℕ → Type 0
BadOperation o = (o < 1) ⊎ (5 < o)

abbrev pub OutOfRange : Record → List Record → Type 0
OutOfRange Unknown rs = ⊥
OutOfRange (Array n) rs = BadLength n
OutOfRange (Loop f l q o) rs = BadLast l ⊎ ((l < f) ⊎ BadOffset o)
OutOfRange (Read q o) rs = BadOffset o
OutOfRange (Constant n) rs = ⊥
OutOfRange (Operation o) rs = BadOperation o
OutOfRange End rs = ⊥
OutOfRange (Statement q o) rs = BadOffset o

-- 4: one array, loop, item or statement too many
abbrev pub ItemTooMany : List Record → Type 0
ItemTooMany rs = (0 < loops rs) × (32 < items rs + 1)

abbrev pub OneTooMany : Record → List Record → Type 0
OneTooMany Unknown rs = ⊥
OneTooMany (Array n) rs = 16 < arrays rs + 1
OneTooMany (Loop f l q o) rs = 16 < loops rs + 1
OneTooMany (Read q o) rs = ItemTooMany rs
OneTooMany (Constant n) rs = ItemTooMany rs
OneTooMany (Operation o) rs = ItemTooMany rs
OneTooMany End rs = ⊥
OneTooMany (Statement q o) rs = (0 < loops rs) × (4 < statement_count rs + 1)

-- 4: an element too many
abbrev pub ManyElements : Record → List Record → Type 0
ManyElements Unknown rs = ⊥
ManyElements (Array n) rs = 262144 < elements rs + n
ManyElements (Loop f l q o) rs = ⊥
ManyElements (Read q o) rs = ⊥
ManyElements (Constant n) rs = ⊥
ManyElements (Operation o) rs = ⊥
ManyElements End rs = ⊥
ManyElements (Statement q o) rs = ⊥

-- 5: no array of that number. (Arrays are numbered from 0.)
abbrev pub NoneNumbered : ℕ → List Record → Type 0
NoneNumbered q rs = arrays rs ≤ q

abbrev pub Unnumbered : Record → List Record → Type 0
Unnumbered Unknown rs = ⊥
Unnumbered (Array n) rs = ⊥
Unnumbered (Loop f l q o) rs = NoneNumbered q rs
Unnumbered (Read q o) rs = NoneNumbered q rs
Unnumbered (Constant n) rs = ⊥
Unnumbered (Operation o) rs = ⊥
Unnumbered End rs = ⊥
Unnumbered (Statement q o) rs = NoneNumbered q rs

-- 6: the body before a loop, a further statement or the end does not leave one
abbrev pub NotOneLeft : Record → List Record → Type 0
NotOneLeft Unknown rs = ⊥
NotOneLeft (Array n) rs = ⊥
NotOneLeft (Loop f l q o) rs = (0 < loops rs) × (waiting rs ≢ 1)
NotOneLeft (Read q o) rs = ⊥
NotOneLeft (Constant n) rs = ⊥
NotOneLeft (Operation o) rs = ⊥
NotOneLeft End rs = (0 < loops rs) × (waiting rs ≢ 1)
NotOneLeft (Statement q o) rs = (0 < loops rs) × (waiting rs ≢ 1)

-- 6: a ninth, or too few waiting numbers
abbrev pub NinthOrTooFew : Record → List Record → Type 0
NinthOrTooFew Unknown rs = ⊥
NinthOrTooFew (Array n) rs = ⊥
NinthOrTooFew (Loop f l q o) rs = ⊥
NinthOrTooFew (Read q o) rs = (0 < loops rs) × (8 < waiting rs + 1)
NinthOrTooFew (Constant n) rs = (0 < loops rs) × (8 < waiting rs + 1)
NinthOrTooFew (Operation o) rs = (0 < loops rs) × (waiting rs < operands o)
NinthOrTooFew End rs = ⊥
NinthOrTooFew (Statement q o) rs = ⊥

-- 7: some iteration i, from first to last, reaches outside an array of n elements: the element i + o - 255 is below 0, or not below n
abbrev pub Outside : ℕ → ℕ → ℕ → ℕ → Type 0
Outside first last o n = (i : ℕ) × (first ≤ i) × (i ≤ last) × ((i + o < 255) ⊎ (n + 255 ≤ i + o))

-- of the latest loop
abbrev pub OutsideInLoop : ℕ → ℕ → List Record → Type 0
OutsideInLoop q o rs = (0 < loops rs) × (q < arrays rs) × Outside (latest rs).first (latest rs).last o (get_or (lengths rs) q 0)

abbrev pub OutsideArray : Record → List Record → Type 0
OutsideArray Unknown rs = ⊥
OutsideArray (Array n) rs = ⊥
OutsideArray (Loop f l q o) rs = (q < arrays rs) × Outside f l o (get_or (lengths rs) q 0)
OutsideArray (Read q o) rs = OutsideInLoop q o rs
OutsideArray (Constant n) rs = ⊥
OutsideArray (Operation o) rs = ⊥
OutsideArray End rs = ⊥
OutsideArray (Statement q o) rs = OutsideInLoop q o rs

-- THE GROUNDS OF AN INPUT s AT A PLACE p
module _ (s : List ℕ) (p : ℕ) where
  -- there is a kind byte at p, and something holds of its record and of the records before it
  abbrev pub AtKind : (Record → List Record → Type 0) → Type 0
  AtKind G = (rs : List Record) × Records s p rs × (p < length s) × G (record_at s p) rs

  -- the whole record at p is there
  abbrev pub AtWhole : (Record → List Record → Type 0) → Type 0
  AtWhole G = (rs : List Record) × Records s p rs × (after s p ≤ length s) × G (record_at s p) rs

  -- 1: bytes end inside a record or before the end record
  abbrev pub Torn : Type 0
  Torn = (rs : List Record) × Records s p rs × ((p ≡ length s) ⊎ ((p < length s) × (length s < after s p)))

  -- 2: kind unknown or out of its order, or no array or loop before end
  abbrev pub BadKind : Type 0
  BadKind = AtKind Misplaced

  -- 3: a field outside its range, or first above last
  abbrev pub BadField : Type 0
  BadField = AtWhole OutOfRange

  -- 4: one array, loop, item, statement or element too many
  abbrev pub Crowd : Type 0
  Crowd = AtKind OneTooMany ⊎ AtWhole ManyElements

  -- 5: no array of that number
  abbrev pub NoArray : Type 0
  NoArray = AtWhole Unnumbered

  -- 6: too few waiting numbers, a ninth, or not one left
  abbrev pub BadBody : Type 0
  BadBody = AtKind NotOneLeft ⊎ AtWhole NinthOrTooFew

  -- 7: some iteration reaches outside the array
  abbrev pub Edge : Type 0
  Edge = AtWhole OutsideArray

  -- 8: bytes follow the end record, from p on
  abbrev pub Tail : Type 0
  Tail = (q : ℕ) × (rs : List Record) × Records s q rs × (q < length s) × (record_at s q ≡ End) × (p ≡ q + 1) × (p < length s)

-- by number, from 1
abbrev pub statements : List ℕ → ℕ → List (Type 0)
statements s p = ⊥ ∷ Torn s p ∷ BadKind s p ∷ BadField s p ∷ Crowd s p ∷ NoArray s p ∷ BadBody s p ∷ Edge s p ∷ Tail s p ∷ []

abbrev pub Ground : ℕ → List ℕ → ℕ → Type 0
Ground n s p = get_or (statements s p) n ⊥
