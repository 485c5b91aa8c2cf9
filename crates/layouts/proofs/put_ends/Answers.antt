use Rattle.layouts.proofs.Laws.{ending-none, ending-next, ending-all}
use Rattle.layouts.proofs.put_ends.Goals as goal

pub loop-b-init : goal.loop-b-init
loop-b-init c = ending-none c.args.a c.args.store.now c.requires.0 c.args.ends.now c.requires.1 c.requires.2

pub loop-b-preserved : goal.loop-b-preserved
loop-b-preserved c =
    ending-next c.args.a c.args.store.now c.requires.0 c.loop-b.ends _ c.loop-b.b c.loop-b.invariant c.loop-b-test.true c.put_end.ensures

pub returns : goal.returns
returns c =
    let l = c.loop-b in
    (ending-all c.args.a c.args.store.now c.requires.0 l.ends l.b l.invariant c.loop-b-test.false, l.invariant.rows)
