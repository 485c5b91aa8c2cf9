use Rattle.reader.specs.Store.{table_in}
use Rattle.amounts.specs.Rows.{past_row}
use Rattle.amounts.specs.Walked.{WalkedTo}
use Rattle.amounts.proofs.walk_loop.Given as goal

-- `walk_loop` meets its contract. The invariant: the walk has come past the rows before r.
abbrev pub invariant-loop-r : goal.invariant-loop-r
invariant-loop-r l = WalkedTo (table_in l.store) (past_row l.store l.k l.r) l.walk l.made
