use Rattle.plain.proofs.Laws.{loops-asks, loops-next, loops-end}
use Rattle.plain.proofs.run_loops.Goals as goal

pub run_loop-requires : goal.run_loop-requires
run_loop-requires c =
    let l = c.loop-k in
    loops-asks c.args.table.now.store.now c.args.table.now.bases.now c.args.memory.now c.loops_in-loops.result c.requires c.loops_in-loops.ensures
    l.k l.memory l.invariant c.loop-k-test.true

pub loop-k-preserved : goal.loop-k-preserved
loop-k-preserved c =
    let l = c.loop-k in
    loops-next c.args.table.now.store.now c.args.table.now.bases.now c.args.memory.now c.loops_in-loops.result c.requires c.loops_in-loops.ensures
    l.k l.memory l.invariant c.loop-k-test.true _ c.run_loop.ensures

pub returns : goal.returns
returns c =
    let l = c.loop-k in
    loops-end c.args.table.now.store.now c.args.table.now.bases.now c.args.memory.now c.loops_in-loops.result c.requires c.loops_in-loops.ensures
    l.k l.memory l.invariant c.loop-k-test.false
