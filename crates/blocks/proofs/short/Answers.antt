use Rattle.std.proofs.Common.{arith}
use Rattle.std.proofs.lemmas.Bool.Decides.{nat_tests}
use Rattle.blocks.proofs.LineLaws.{short-at}
use Rattle.blocks.proofs.short.Goals as goal

-- of the blocks the last, which is the smallest, alone has to be tested
pub returns-then-lines_of-blocks : goal.returns-then-lines_of-blocks
returns-then-lines_of-blocks c =
    let a = c.args in
    let e = short-at a.count a.line a.blocks a.threshold c.requires.0 in
    grind (arith, nat_tests)

pub returns-then-blocks-ge2 : goal.returns-then-blocks-ge2
returns-then-blocks-ge2 c =
    let a = c.args in
    let e = short-at a.count a.line a.blocks a.threshold c.requires.0 in
    grind (arith, nat_tests)

pub returns-else-blocks-ge2 : goal.returns-else-blocks-ge2
returns-else-blocks-ge2 c =
    let a = c.args in
    let e = short-at a.count a.line a.blocks a.threshold c.requires.0 in
    grind (arith, nat_tests)
