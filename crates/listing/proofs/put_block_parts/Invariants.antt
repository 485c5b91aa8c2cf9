use Rattle.reader.specs.Store.{loops_in}
use Rattle.ranges.specs.Code.{range_of}
use Rattle.listing.specs.Listing.{range_line, phase_name}
use Rattle.listing.proofs.Laws.{Lines}
use Rattle.listing.proofs.put_block_parts.Given as goal

abbrev pub invariant-loop-k : goal.invariant-loop-k
invariant-loop-k l =
    Lines l.fn.out 100 (λ j. range_line (phase_name l.phase) l.b j (range_of l.phase l.a l.store l.b j)) (loops_in l.store) l.k l.out
