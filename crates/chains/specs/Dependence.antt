-- Dependences between the loops of a table: which two references make one, and its amounts.
use Rattle.std.specs.Prelude.{ℕ, ◌-◌, Bool, ◌&&◌, ltb}
use Rattle.model.specs.declared.Reference.{Reference}
use Rattle.model.specs.Table.{Table, first, last}
use Rattle.model.specs.References.{touch}
use Rattle.overlap.specs.Overlap.{meeting}

-- some iteration i of x's loop and iteration i + d of y's both lie in their loops' bounds, where d = (x's offset) − (y's offset)
abbrev pub meet_in : Table → Reference → Reference → Bool
meet_in t x y = meeting (first t x.number) (last t x.number) x.offset (first t y.number) (last t y.number) y.offset

-- two references to one array, at least one of them a destination, the first in an earlier loop, that meet within their loops' bounds.
-- What counts as a dependence in a table is said here alone: the table's graph has this predicate, and chains, numbers and plans speak of
-- the graph
unfoldable pub dependence : Table → Reference → Reference → Bool
unfolding touch meeting
dependence t x y = ltb x.number y.number && (touch x y && meet_in t x y)

-- of the distance d: backward −d where d < 0, else 0; forward d where d > 0, else 0
abbrev pub backward : Reference → Reference → ℕ
backward x y = y.offset - x.offset

abbrev pub forward : Reference → Reference → ℕ
forward x y = x.offset - y.offset
