use Rattle.text.proofs.Laws.{LineInv}
use Rattle.text.proofs.Writer.put_line.Given as goal

abbrev pub invariant-loop-x : goal.invariant-loop-x
invariant-loop-x l = LineInv l.fn.self l.word l.fields l.x-index l.self
