use Rattle.reader.specs.Store.{table_in}
use Rattle.iterations.proofs.Laws.{Filled}
use Rattle.iterations.proofs.bases_of.Given as goal

abbrev pub invariant-loop-k : goal.invariant-loop-k
invariant-loop-k l = Filled (table_in l.store).lengths l.firsts l.next l.k
