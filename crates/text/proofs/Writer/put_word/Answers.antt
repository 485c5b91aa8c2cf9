use Rattle.text.proofs.Laws.{word-start, word_next, word_end}
use Rattle.text.proofs.Writer.put_word.Goals as goal

pub loop-b-init : goal.loop-b-init
loop-b-init c = word-start c.args.self.now c.args.w.now

pub loop-b-preserved : goal.loop-b-preserved
loop-b-preserved c = word_next c.args.self.now c.args.w.now c.loop-b.invariant c.loop-b-test.true c.put_byte.ensures

pub returns : goal.returns
returns c = word_end c.args.self.now c.args.w.now c.loop-b.invariant c.loop-b-test.false
