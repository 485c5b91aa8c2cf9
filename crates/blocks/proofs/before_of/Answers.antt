use Rattle.std.proofs.Common.{refl, arith}
use Rattle.blocks.proofs.LineLaws.{before_at, before-most, lines_fit}
use Rattle.blocks.proofs.before_of.Goals as goal

-- W times the lines before the block, cut at the count
pub overflow_mul-line : goal.overflow_mul-line
overflow_mul-line c =
    let a = c.args in
    rw (c.start_of-n.ensures.0, c.lines_of.ensures) (omega (arith, lines_fit a.count a.line a.blocks a.b c.requires.0 c.requires.2 c.requires.3))

pub returns : goal.returns
returns c =
    let a = c.args in
    rw (c.min.ensures, c.start_of-n.ensures.0, c.lines_of.ensures, before_at a.count a.line a.blocks a.b)
    (refl, before-most a.count a.line a.blocks a.b)
