-- What a loop refers to: each destination and each read, in byte order. Where two references meet.
use Rattle.std.specs.Prelude.{ℕ, ◌+◌, ◌≡◌, ◌⊎◌, Bool, true, false, ◌&&◌, ◌||◌, List, [], ◌∷◌, ◌++◌, eqb}
use Rattle.order.specs.Sequences.{joined}
use Rattle.model.specs.declared.Reference.{Reference}
use Rattle.model.specs.Table.{Item, read, constant, operation, Statement, Table, loop, count}

-- in loop k: a destination, and a read
abbrev pub destination : ℕ → Statement → Reference
destination k s = record { number = k; array = s.array; offset = s.offset; stores = true }

abbrev pub reads : ℕ → List Item → List Reference
reads k [] = []
reads k (read a o ∷ xs) = record { number = k; array = a; offset = o; stores = false } ∷ reads k xs
reads k (constant n ∷ xs) = reads k xs
reads k (operation n ∷ xs) = reads k xs

abbrev pub references : ℕ → List Statement → List Reference
references k [] = []
references k (s ∷ b) = (destination k s ∷ reads k s.items) ++ references k b

-- the references of loop k, and those of all loops
abbrev pub refs : Table → ℕ → List Reference
refs t k = references k (loop t k).body

abbrev pub all_refs : Table → List Reference
all_refs t = joined (count t) (refs t)

-- one array, and at least one of the two a destination
unfoldable pub touch : Reference → Reference → Bool
touch r q = eqb r.array q.array && (r.stores || q.stores)

abbrev pub Touch : Reference → Reference → Type 0
Touch r q = (r.array ≡ q.array) × ((r.stores ≡ true) ⊎ (q.stores ≡ true))

-- in iterations i and j they are at one element
abbrev pub Meet : ℕ → ℕ → Reference → Reference → Type 0
Meet i j r q = Touch r q × (i + r.offset ≡ j + q.offset)
