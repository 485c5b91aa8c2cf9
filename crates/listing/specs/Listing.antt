-- The listing, line by line. A range is kept with its exclusive end, `past`; its line gives the last index, past - 1. Assumes nothing.
use Rattle.std.specs.Prelude.{cond, List, [], ◌∷◌, ◌++◌, ℕ, zero, suc, ◌-◌, ltb}
use Rattle.model.specs.Table.{Table, count}
use Rattle.text.specs.Ascii.{ascii}
use Rattle.text.specs.Line.{line}
use Rattle.blocks.specs.declared.Range.{Range}
use Rattle.blocks.specs.Blocks.{block_at}
use Rattle.lists.specs.Fusion.{Fusion, fused_range, peeled_range}

-- loop, shift, peel
abbrev pub loop_line : ℕ → ℕ → ℕ → List ℕ
loop_line k shift peel = line (ascii "loop") (k ∷ shift ∷ peel ∷ [])

-- block, a, e
abbrev pub block_line : ℕ → Range → List ℕ
block_line b r = line (ascii "block") (b ∷ r.from ∷ (r.past - 1) ∷ [])

-- block, loop, from, to (empty ranges omitted)
abbrev pub range_line : List ℕ → ℕ → ℕ → Range → List ℕ
range_line word b k r = cond (ltb r.from r.past) (line word (b ∷ k ∷ r.from ∷ (r.past - 1) ∷ [])) []

-- before, after
abbrev pub sweeps_line : ℕ → ℕ → List ℕ
sweeps_line before after = line (ascii "sweeps") (before ∷ after ∷ [])

-- the texts f 0, .., f (n - 1), one after the other
abbrev pub each : ℕ → (ℕ → List ℕ) → List ℕ
each zero f = []
each (suc n) f = each n f ++ f n

-- ranges by block and within it by loop, of P blocks and n loops
abbrev pub range_lines : List ℕ → ℕ → ℕ → (ℕ → ℕ → Range) → List ℕ
range_lines word P n part = each P (λ b. each n (λ k. range_line word b k (part b k)))

-- the word of a phase
abbrev pub phase_name : ℕ → List ℕ
phase_name zero = ascii "fused"
phase_name (suc n) = ascii "peeled"

-- of a table, its plan and the two counts of sweeps
module _ (t : Table) (c : Fusion) (before after : ℕ) where
  abbrev loops : List ℕ
  loops = each (count t) (λ k. loop_line k (c.shift k) (c.peel k))

  abbrev blocks : List ℕ
  blocks = each c.processors (λ b. block_line b (block_at c.edge b))

  abbrev fused : List ℕ
  fused = range_lines (phase_name 0) c.processors (count t) (fused_range t c)

  abbrev peeled : List ℕ
  peeled = range_lines (phase_name 1) c.processors (count t) (peeled_range t c)

  -- loops, blocks, then fused and then peeled ranges, then sweeps
  unfoldable pub listing : List ℕ
  listing = loops ++ blocks ++ fused ++ peeled ++ sweeps_line before after

-- a refusal is the single line `refused`, number, place
unfoldable pub refusal_line : ℕ → ℕ → List ℕ
refusal_line number place = line (ascii "refused") (number ∷ place ∷ [])
