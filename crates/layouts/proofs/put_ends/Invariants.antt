use Rattle.layouts.proofs.Laws.{Ending}
use Rattle.layouts.proofs.put_ends.Given as goal

abbrev pub invariant-loop-b : goal.invariant-loop-b
invariant-loop-b l = Ending l.a l.store l.ends l.b
