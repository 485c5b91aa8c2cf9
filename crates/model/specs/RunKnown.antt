-- An iteration of several statements, by computation: they run in order, and each is stored before the next begins.
use Rattle.std.specs.Prelude.{ℕ, ◌≡◌, refl, List, [], ◌∷◌, pos, get_or, Float}
use Rattle.std.specs.Int.Count.{count_trailing_zeros}
use Rattle.std.specs.Float.{nan, binary64}
use Rattle.std.specs.Float.Ieee.{of_int, to_bits, add, sub, mul, div, neg, sum, round, span, climb, units, odd}
use Rattle.std.specs.Float.Ieee as Ieee
use Rattle.model.specs.Table.{Item, read, constant, operation, Statement, Table, iteration}
use Rattle.model.specs.Bodies.{binary, negated, combined, applied, worked, worked_all, value, performed, run}

abbrev whole : ℕ → Float
whole n = of_int binary64 (pos n)

-- array q at i, of the items
abbrev stored : ℕ → List Item → Statement
stored q xs = record { array = q; offset = 255; items = xs }

-- two arrays of one element, and a loop from 0 to 0 with these statements
abbrev of : List Statement → Table
of b = record { lengths = 1 ∷ 1 ∷ []; loops = record { first = 0; last = 0; body = b } ∷ [] }

-- the bits of array q's element, after an iteration with these statements, from 3 and 0
abbrev bits : ℕ → List Statement → ℕ
bits q b = to_bits binary64 (get_or (run (of b) (iteration 0 0) (whole 3 ∷ whole 0 ∷ [])) q nan)

-- A0[i] = 7; A0[i] = A0[i] + 1
abbrev again : List Statement
again = stored 0 (constant 7 ∷ []) ∷ stored 0 (read 0 255 ∷ constant 1 ∷ operation 1 ∷ []) ∷ []

-- A0[i] = A0[i] + 1; A1[i] = A0[i] + A0[i]
abbrev doubled : List Statement
doubled = stored 0 (read 0 255 ∷ constant 1 ∷ operation 1 ∷ []) ∷ stored 1 (read 0 255 ∷ read 0 255 ∷ operation 1 ∷ []) ∷ []

pub record RunKnown : Type 0 where
  -- 8: with the last statement first it would be 7, and with both values worked out first 4
  pub in_order : bits 0 again ≡ 0x4020000000000000
  -- 4 and 8: the second statement reads what the first has stored
  pub first-stored : bits 0 doubled ≡ 0x4010000000000000
  pub then-read : bits 1 doubled ≡ 0x4020000000000000

pub run-known : RunKnown
unfolding binary negated combined applied worked worked_all value performed add sub mul div neg sum round Ieee.size span climb units odd count_trailing_zeros of_int
    to_bits
run-known = record { in_order = refl; first-stored = refl; then-read = refl }
