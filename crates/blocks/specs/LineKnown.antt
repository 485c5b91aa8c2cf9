-- Ten indices on whole lines, by computation: it needs the definitions alone.
use Rattle.std.specs.Prelude.{◌≡◌, refl, true, false, List, [], ◌∷◌, ℕ}
use Rattle.blocks.specs.Blocks.{lines, size, start, before, width, is_short}

-- where the first four blocks begin, and how many indices the first three have
abbrev pub begins : ℕ → ℕ → List ℕ
begins W P = before 10 W P 0 ∷ before 10 W P 1 ∷ before 10 W P 2 ∷ before 10 W P 3 ∷ []

abbrev pub widths : ℕ → ℕ → List ℕ
widths W P = width 10 W P 0 ∷ width 10 W P 1 ∷ width 10 W P 2 ∷ []

pub record LineKnown : Type 0 where
  -- rounded up
  pub lines-of-four : lines 10 4 ≡ 3
  pub lines-of-five : lines 10 5 ≡ 2
  -- three blocks: of ten lines, of three lines of 4, of four lines of 3; the last one is cut at the tenth index
  pub ones : begins 1 3 ≡ 0 ∷ 4 ∷ 7 ∷ 10 ∷ []
  pub fours : begins 4 3 ≡ 0 ∷ 4 ∷ 8 ∷ 10 ∷ []
  pub threes : begins 3 3 ≡ 0 ∷ 6 ∷ 9 ∷ 10 ∷ []
  pub widths-of-three : widths 3 3 ≡ 6 ∷ 3 ∷ 1 ∷ []
  -- 11: five lines of 2 are enough for five blocks and not for six; four lines of 3 for four
  pub five-lines : is_short 10 2 5 0 ≡ false
  pub six-blocks : is_short 10 2 6 0 ≡ true
  pub four-lines : is_short 10 3 4 0 ≡ false
  -- the last block as it is cut has two indices of three lines of 4, and one of four lines of 3
  pub last-has-two : is_short 10 4 3 2 ≡ false
  pub last-has-one : is_short 10 3 3 2 ≡ true

pub line_known : LineKnown
unfolding lines size start before is_short
line_known = record {
  lines-of-four = refl;
  lines-of-five = refl;
  ones = refl;
  fours = refl;
  threes = refl;
  widths-of-three = refl;
  five-lines = refl;
  six-blocks = refl;
  four-lines = refl;
  last-has-two = refl;
  last-has-one = refl;
}
