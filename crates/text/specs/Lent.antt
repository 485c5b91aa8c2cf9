-- What lent bytes hold after a text was written into them, and what a call that puts one there answers.
use Rattle.std.specs.Prelude.{◌≡◌, List, [], ◌∷◌, ℕ, suc, ◌+◌, ◌≤◌, length, set}

-- the bytes `text` from the place `at` on, as far as there is room; the rest as found. `set` past the end changes nothing
unfoldable pub written : List ℕ → ℕ → List ℕ → List ℕ
written out at [] = out
written out at (b ∷ text) = written (set out at b) (suc at) text

-- a call that puts a text of at most `most` bytes at a place leaves `left` of `out`, and answers the place past it,
-- which it does where there is no room, too
pub record Put (out : List ℕ) (at : ℕ) (text : List ℕ) (most : ℕ) (left : List ℕ) (past : ℕ) : Type 0 where
  pub bytes : left ≡ written out at text
  pub place : past ≡ at + length text
  pub few : length text ≤ most

-- a call that writes a whole text of at most `most` bytes, from the first byte on, answers its length
pub record Whole (out : List ℕ) (text : List ℕ) (most : ℕ) (left : List ℕ) (count : ℕ) : Type 0 where
  pub bytes : left ≡ written out 0 text
  pub size : count ≡ length text
  pub few : count ≤ most
