use Rattle.reader.specs.Store.{table_in}
use Rattle.legality.specs.Code.{stored_with}
use Rattle.legality.proofs.Laws.{LeftOf}
use Rattle.legality.proofs.lacks_destinations.Given as goal

abbrev pub invariant-loop-r : goal.invariant-loop-r
invariant-loop-r l = LeftOf l.store (stored_with (table_in l.store) l.a l.k) l.j l.r
