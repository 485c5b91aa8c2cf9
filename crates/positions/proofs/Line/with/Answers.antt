use Rattle.std.proofs.Common.{refl, arith}
use Rattle.positions.specs.LineLaws.{extended-more}
use Rattle.positions.proofs.Line.with.Goals as goal

pub returns : goal.returns
returns c =
    extended-more c.args.self _ c.args.r c.args.shift c.args.weight (omega arith) c.requires.0 c.max.ensures c.min.ensures refl refl
