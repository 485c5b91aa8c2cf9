use Rattle.reader.specs.Store.{table_in}
use Rattle.amounts.specs.Walked.{numbers_of}
use Rattle.amounts.proofs.Laws.{Remaining}
use Rattle.amounts.proofs.take_earlier.Given as goal

-- `take_earlier` meets its contract. The invariant: the pairs that are left are the next steps, and from the numbers so far they give what all of them give.
abbrev pub invariant-loop-x : goal.invariant-loop-x
invariant-loop-x l =
    Remaining (table_in l.store) l.columns l.from l.y (numbers_of l.initial.amounts l.initial.made) l.x l.made l.amounts.shifts l.amounts.peels
