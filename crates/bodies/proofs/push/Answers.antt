use Rattle.bodies.proofs.Tops.{pushed}
use Rattle.bodies.proofs.push.Goals as goal

pub returns : goal.returns
returns c = let a = c.args in
    pushed a.vs.now a.n c.requires.1 a.x c.requires.0
