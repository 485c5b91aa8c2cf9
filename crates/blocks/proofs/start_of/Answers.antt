use Rattle.std.proofs.Common.{arith}
use Rattle.blocks.proofs.BlockLaws.{start_fits, start-at}
use Rattle.blocks.proofs.start_of.Goals as goal

-- each block before b has n / P lines, and the first (n mod P) have one more
pub returns : goal.returns
returns c =
    let a = c.args in
    (omega (arith, start-at a.n a.blocks a.b), omega (arith, start_fits a.n a.blocks a.b c.requires.1 c.requires.0))
