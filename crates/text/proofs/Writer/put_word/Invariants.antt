use Rattle.text.proofs.Laws.{WordInv}
use Rattle.text.proofs.Writer.put_word.Given as goal

abbrev pub invariant-loop-b : goal.invariant-loop-b
invariant-loop-b l = WordInv l.fn.self l.w l.b-index l.self
