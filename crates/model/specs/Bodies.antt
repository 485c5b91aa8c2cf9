-- The memory, and what one iteration does to it. Arithmetic is IEEE 754 binary64, each operation rounded once.
use Rattle.std.specs.Prelude.{ℕ, zero, suc, ◌+◌, ◌-◌, cond, List, [], ◌∷◌, eqb, pos, get_or, set, Float}
use Rattle.std.specs.Float.{nan, binary64}
use Rattle.std.specs.Float.Ieee.{of_int, add, sub, mul, div, neg}
use Rattle.order.specs.Sequences.{run_all}
use Rattle.model.specs.declared.Iteration.{Iteration}
use Rattle.model.specs.Table.{Item, read, constant, operation, Statement, Table, loop}

-- the memory is the arrays in order without gaps: where array a begins
abbrev pub begins : List ℕ → ℕ → ℕ
begins [] a = 0
begins (n ∷ ns) zero = 0
begins (n ∷ ns) (suc a) = n + begins ns a

-- element i + offset of array a, in the memory
abbrev pub place : List ℕ → ℕ → ℕ → ℕ → ℕ
place ns a o i = begins ns a + (i + o - 255)

-- 1 add, 2 subtract, 3 multiply, 4 divide: the later value is the right operand
unfoldable pub binary : ℕ → Float → Float → Float
binary op x y =
    cond (eqb op 1) (add binary64 x y) (cond (eqb op 2) (sub binary64 x y) (cond (eqb op 3) (mul binary64 x y) (div binary64 x y)))

-- 5 negate
unfoldable pub negated : List Float → List Float
negated [] = []
negated (x ∷ w) = neg x ∷ w

unfoldable pub combined : ℕ → List Float → List Float
unfolding binary
combined op [] = []
combined op (y ∷ []) = y ∷ []
combined op (y ∷ x ∷ w) = binary op x y ∷ w

-- an operation takes one or two of the waiting numbers, the latest first, and adds one
unfoldable pub applied : ℕ → List Float → List Float
unfolding negated combined
applied op w = cond (eqb op 5) (negated w) (combined op w)

-- one item in iteration i: a read or a constant adds a waiting number
unfoldable pub worked : List ℕ → ℕ → List Float → Item → List Float → List Float
unfolding applied
worked ns i m (read a o) w = get_or m (place ns a o i) nan ∷ w
worked ns i m (constant n) w = of_int binary64 (pos n) ∷ w
worked ns i m (operation op) w = applied op w

-- the items in byte order
unfoldable pub worked_all : List ℕ → ℕ → List Float → List Item → List Float → List Float
unfolding worked
worked_all ns i m [] w = w
worked_all ns i m (x ∷ xs) w = worked_all ns i m xs (worked ns i m x w)

-- the number that remains
unfoldable pub value : List ℕ → ℕ → List Item → List Float → Float
unfolding worked_all
value ns i xs m = get_or (worked_all ns i m xs []) 0 nan

-- a statement in iteration i
unfoldable pub performed : List ℕ → ℕ → Statement → List Float → List Float
unfolding value
performed ns i s m = set m (place ns s.array s.offset i) (value ns i s.items m)

-- one iteration: its statements in order
abbrev pub run : Table → Iteration → List Float → List Float
run t x = run_all (performed t.lengths x.index) (loop t x.number).body
