use Rattle.reader.specs.Store.{table_in}
use Rattle.legality.specs.Code.{between}
use Rattle.legality.proofs.Laws.{LeftOf}
use Rattle.legality.proofs.lacks_loop.Given as goal

abbrev pub invariant-loop-r : goal.invariant-loop-r
invariant-loop-r l = LeftOf l.store (between (table_in l.store) l.a l.x) l.k l.r
