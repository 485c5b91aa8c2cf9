-- The bytes of the longest table, of an input that is refused at the furthest place, and of one whose answer its last byte decides.
use Rattle.std.specs.Prelude.{ℕ, zero, suc, List, [], ◌∷◌, ◌++◌}

abbrev times : ℕ → List ℕ → List ℕ
times zero l = []
times (suc n) l = l ++ times n l

abbrev array : List ℕ
array = 1 ∷ 1 ∷ 0 ∷ 0 ∷ 0 ∷ []

-- from 0 to 0, storing at A0[i]
abbrev loop : List ℕ
loop = 2 ∷ 0 ∷ 0 ∷ 0 ∷ 0 ∷ 0 ∷ 0 ∷ 0 ∷ 0 ∷ 0 ∷ 0 ∷ 0 ∷ []

abbrev constant : List ℕ
constant = 4 ∷ 0 ∷ 0 ∷ 0 ∷ 0 ∷ []

abbrev add : List ℕ
add = 5 ∷ 1 ∷ []

-- a further statement, storing at A0[i]
abbrev statement : List ℕ
statement = 7 ∷ 0 ∷ 0 ∷ 0 ∷ []

-- 2 n + 1 items, n + 1 constants and n additions, that leave one number
abbrev sum_of : ℕ → List ℕ
sum_of n = constant ++ times n (constant ++ add)

-- four statements with 32 items in all, eighteen constants and fourteen additions, each of which leaves one number
abbrev full : List ℕ
full = loop ++ (sum_of 14 ++ times 3 (statement ++ constant))

-- four statements of which the last leaves seven and eight: with 32 items and with 31
abbrev seven : List ℕ
seven = loop ++ (sum_of 11 ++ (times 2 (statement ++ constant) ++ (statement ++ times 7 constant)))

abbrev eight : List ℕ
eight = loop ++ (sum_of 10 ++ (times 2 (statement ++ constant) ++ (statement ++ times 8 constant)))

-- sixteen arrays, fifteen full loops, and then
abbrev after : List ℕ → List ℕ
after l = times 16 array ++ (times 15 full ++ l)

abbrev pub longest : List ℕ
longest = after (full ++ (6 ∷ []))

-- the end record stands where a body is left unfinished
abbrev pub furthest : List ℕ
furthest = after (seven ++ (6 ∷ []))

-- a ninth number
abbrev pub ninth : List ℕ
ninth = after (eight ++ constant)
