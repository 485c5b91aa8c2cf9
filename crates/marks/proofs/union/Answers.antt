use Rattle.marks.proofs.Laws.{marked-or}
use Rattle.marks.proofs.union.Goals as goal

pub returns : goal.returns
returns c = marked-or c.args.a c.args.b
