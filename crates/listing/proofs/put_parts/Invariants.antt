use Rattle.reader.specs.Store.{loops_in}
use Rattle.ranges.specs.Code.{range_of}
use Rattle.listing.specs.Listing.{range_line, each, phase_name}
use Rattle.listing.proofs.Laws.{Lines}
use Rattle.listing.proofs.put_parts.Given as goal

abbrev pub invariant-loop-b : goal.invariant-loop-b
invariant-loop-b l =
    Lines l.fn.out 1600 (λ j. each (loops_in l.store) (λ k. range_line (phase_name l.phase) j k (range_of l.phase l.a l.store j k))) l.a.blocks l.b l.out
