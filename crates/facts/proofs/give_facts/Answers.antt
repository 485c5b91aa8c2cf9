use Rattle.reader.specs.Store.{table_in}
use Rattle.numbers.specs.AskedLaws.{numbers-short, numbers-put}
use Rattle.facts.specs.Facts.{facts_of}
use Rattle.facts.proofs.Laws.{facts-size}
use Rattle.facts.proofs.give_facts.Goals as goal

pub returns-then-out-pairs : goal.returns-then-out-pairs
returns-then-out-pairs c =
    let a = c.args in
    let st = a.store.now in
    let size = facts-size st c.requires.0 _ _ c.arrays_in.ensures c.loops_in.ensures in
    rw c.short.ensures (numbers-short (facts_of (table_in st)) a.out.now _ size c.if-out-pairs.true)

pub returns : goal.returns
returns c =
    let a = c.args in
    let st = a.store.now in
    let size = facts-size st c.requires.0 _ _ c.arrays_in.ensures c.loops_in.ensures in
    numbers-put (facts_of (table_in st)) a.out.now _ size c.if-out-pairs.false c.write_facts.ensures
