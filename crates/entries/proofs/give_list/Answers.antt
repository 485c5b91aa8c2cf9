use native.Mathlib.Omega.{arith}
use Rattle.reader.specs.Store.{table_in}
use Rattle.reader.specs.Held.{few-loops}
use Rattle.lists.specs.Fusion.{fusion_in, work}
use Rattle.ranges.specs.Listed.{list-in}
use Rattle.entries.specs.Entries.{pairs_of}
use Rattle.numbers.specs.AskedLaws.{numbers-short, numbers-put}
use Rattle.entries.proofs.Laws.{list-fits, list-size}
use Rattle.entries.proofs.give_list.Goals as goal

pub returns-then-out-size : goal.returns-then-out-size
returns-then-out-size c =
    let a = c.args in
    let l = work (table_in a.store.now) (fusion_in a.a.now) a.phase a.b in
    let size = list-size _ l c.put_list-size.ensures.value.0 in
    rw c.short.ensures (numbers-short (pairs_of l) a.out.now _ size c.if-out-size.true)

pub write_list-requires : goal.write_list-requires
write_list-requires c =
    let a = c.args in
    let st = a.store.now in
    let p = c.requires in
    let q = c.put_list-size.ensures in
    let n = c.loops_in.ensures in
    let e = list-in a.a.now st p.0 a.phase a.b _ q.ranges_kept in
    (omega (arith, n, few-loops p.0.held), rw n (list-fits a.a.now st p.0 a.phase a.b p.1 _ _ e q.value))

pub returns : goal.returns
returns c =
    let a = c.args in
    let q = c.put_list-size.ensures in
    let l = work (table_in a.store.now) (fusion_in a.a.now) a.phase a.b in
    let size = list-size _ l q.value.0 in
    let e = list-in a.a.now a.store.now c.requires.0 a.phase a.b _ q.ranges_kept in
    let w = rw e at (rw c.loops_in.ensures at c.write_list.ensures) in
    numbers-put (pairs_of l) a.out.now _ size c.if-out-size.false w
