use Rattle.reader.specs.Store.{loops_in}
use Rattle.blocks.specs.Sums.{column}
use Rattle.listing.specs.Listing.{loop_line}
use Rattle.listing.proofs.Laws.{Lines}
use Rattle.listing.proofs.put_loops.Given as goal

abbrev pub invariant-loop-k : goal.invariant-loop-k
invariant-loop-k l =
    Lines l.fn.out 100 (λ j. loop_line j (column l.a.shifts j) (column l.a.peels j)) (loops_in l.store) l.k l.out
