use native.Mathlib.Omega.{arith}
use Rattle.reader.specs.Store.{table_in}
use Rattle.iterations.proofs.Laws.{filled-most, filled_next}
use Rattle.iterations.proofs.bases_of.Goals as goal

pub overflow_add-next : goal.overflow_add-next
overflow_add-next c =
    let l = c.loop-k in
    let e = rw c.arrays_in-arrays.ensures at c.array_length-next.ensures in
    let most =
    filled-most (table_in c.args.store.now).lengths l.firsts l.next l.k l.invariant c.loop-k-test.true
    c.array_length-next.result e in
    omega (arith, most, c.requires)

pub loop-k-preserved : goal.loop-k-preserved
loop-k-preserved c =
    let l = c.loop-k in
    let e = rw c.arrays_in-arrays.ensures at c.array_length-next.ensures in
    filled_next (table_in c.args.store.now).lengths l.firsts l.next l.k l.invariant c.loop-k-test.true
    c.array_length-next.result e
