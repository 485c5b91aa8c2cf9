use Rattle.lists.specs.Fusion.{fusion_in}
use Rattle.entries.specs.Entries.{blocks_of}
use Rattle.numbers.specs.AskedLaws.{numbers-short, numbers-put}
use Rattle.entries.proofs.Laws.{blocks-size}
use Rattle.entries.proofs.give_blocks.Goals as goal

pub returns-then-out-a : goal.returns-then-out-a
returns-then-out-a c =
    let a = c.args in
    rw c.short.ensures (numbers-short (blocks_of (fusion_in a.a.now)) a.out.now _ (blocks-size a.a.now) c.if-out-a.true)

pub returns : goal.returns
returns c =
    let a = c.args in
    numbers-put (blocks_of (fusion_in a.a.now)) a.out.now _ (blocks-size a.a.now) c.if-out-a.false c.write_blocks.ensures
