-- Where every loop with an iteration is at work, the count below a sum t is a line in t: slope * t - offset. Assumes nothing.
use Rattle.std.specs.Prelude.{◌≡◌, List, ℕ, ◌+◌, ◌*◌, ◌≤◌, ◌<◌, ◌^◌}
use Rattle.blocks.specs.declared.Range.{Range}
use Rattle.lists.specs.Below.{clip}
use Rattle.positions.specs.Search.{below_columns}
use Rattle.positions.specs.declared.Position.{Position}
use Rattle.positions.specs.declared.Line.{Line}

-- b is what the line says of t
abbrev pub Counted : Line → ℕ → ℕ → Type 0
Counted l t b = l.from ≤ t → t ≤ l.past → b + l.offset ≡ l.slope * t

-- m is the line l with one loop more
pub record Extended (l : Line) (r : Range) (s w : ℕ) (m : Line) : Type 0 where
  pub count : (t b : ℕ) → Counted l t b → Counted m t (b + w * clip r s t)
  pub slope : m.slope ≤ l.slope + 65536
  pub offset : m.offset ≤ l.offset + 2 ^ 49

-- the line of all loops
pub record Linear (fs ps ss ws : List ℕ) (l : Line) : Type 0 where
  pub count : (t : ℕ) → Counted l t (below_columns fs ps ss ws t)
  pub small : l.offset ≤ 2 ^ 53

-- where the line has the n-th iteration
pub record OnLine (l : Line) (n : ℕ) (p : Position) : Type 0 where
  pub whole : p.sum * l.slope + p.before ≡ n + l.offset
  pub rest : p.before < l.slope
