use Rattle.blocks.specs.Code.{block_in}
use Rattle.listing.specs.Listing.{block_line}
use Rattle.listing.proofs.Laws.{Lines}
use Rattle.listing.proofs.put_blocks.Given as goal

abbrev pub invariant-loop-b : goal.invariant-loop-b
invariant-loop-b l =
    Lines l.fn.out 100 (λ j. block_line j (block_in l.a j)) l.a.blocks l.b l.out
