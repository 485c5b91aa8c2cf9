use Rattle.reader.specs.Store.{first_at, last_at}
use Rattle.numbers.specs.Pairs.{Rowed}
use Rattle.facts.proofs.put_bounds.Given as goal

abbrev pub invariant-loop-k : goal.invariant-loop-k
invariant-loop-k l = Rowed (first_at l.store) (last_at l.store) l.loops l.fn.out l.k l.out
