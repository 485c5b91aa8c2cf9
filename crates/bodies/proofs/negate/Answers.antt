use Rattle.bodies.proofs.Tops.{negated-top}
use Rattle.bodies.proofs.negate.Goals as goal

pub returns : goal.returns
returns c = let a = c.args in
    negated-top a.vs.now a.n c.requires.2 c.requires.0 c.requires.1
