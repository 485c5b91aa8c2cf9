use Rattle.text.proofs.Laws.{line-start, line-next, line-end}
use Rattle.text.proofs.Writer.put_line.Goals as goal

pub loop-x-init : goal.loop-x-init
loop-x-init c = let a = c.args in line-start a.self.now a.word.now a.fields.now c.requires.short c.put_word.ensures

pub loop-x-preserved : goal.loop-x-preserved
loop-x-preserved c = let a = c.args in line-next a.self.now a.word.now a.fields.now c.loop-x.invariant c.loop-x-test.true c.put_field.ensures

pub returns : goal.returns
returns c =
    let a = c.args in
    line-end a.self.now a.word.now a.fields.now c.loop-x.invariant c.loop-x-test.false c.requires.few c.put_byte.ensures
