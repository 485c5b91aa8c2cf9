use Rattle.order.specs.Sequences.{joined}
use Rattle.model.specs.References.{refs}
use Rattle.reader.specs.Store.{table_in}
use Rattle.amounts.specs.Walked.{WalkedTo}
use Rattle.amounts.proofs.walk.Given as goal

-- `walk` meets its contract. The invariant: the walk has come past the references of the loops below k.
abbrev pub invariant-loop-k : goal.invariant-loop-k
invariant-loop-k l = WalkedTo (table_in l.store) (joined l.k (refs (table_in l.store))) l.walk l.made
