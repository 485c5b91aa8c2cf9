use Rattle.bodies.proofs.Tops.{combined-tops}
use Rattle.bodies.proofs.combine.Goals as goal

pub returns : goal.returns
returns c =
    let a = c.args in
    combined-tops a.vs.now a.n c.requires.2 a.op c.operate.result c.requires.0 c.requires.1 c.operate.ensures
