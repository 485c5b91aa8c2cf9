use Rattle.listing.specs.Listing.{phase_name}
use Rattle.listing.proofs.Laws.{range-empty}
use Rattle.listing.proofs.put_range.Goals as goal

pub returns-then-r : goal.returns-then-r
returns-then-r c = let a = c.args in range-empty (phase_name a.phase) a.b a.k a.r c.if-r.true
