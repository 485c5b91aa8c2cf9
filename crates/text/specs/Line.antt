-- A line of text: a word and numbers. Assumes nothing.
use Rattle.std.specs.Prelude.{List, [], ◌∷◌, ◌++◌, ℕ}
use Rattle.text.specs.Decimal.{decimal}

-- one blank and a number
abbrev pub field : ℕ → List ℕ
field x = 32 ∷ decimal x

-- the fields of a line, and a line feed
abbrev pub fields : List ℕ → List ℕ
fields [] = 10 ∷ []
fields (x ∷ xs) = field x ++ fields xs

-- a word, its fields, a line feed
unfoldable pub line : List ℕ → List ℕ → List ℕ
line word xs = word ++ fields xs
