use Rattle.bodies.specs.Stack.{tops}
use Rattle.bodies.proofs.Work.{five, other, applied-five, applied-other}
use Rattle.bodies.proofs.apply.Goals as goal

pub negate-requires : goal.negate-requires
negate-requires c =
    ((five c.args.op c.args.n c.if-op-eq5.true c.requires.0).0, c.requires.1, c.requires.2)

pub returns-then-op-eq5 : goal.returns-then-op-eq5
returns-then-op-eq5 c =
    let a = c.args in
    applied-five c.negate.new.vs c.negate.result a.op a.n (tops a.vs.now a.n) c.requires.0
    c.if-op-eq5.true c.negate.ensures

pub combine-requires : goal.combine-requires
combine-requires c =
    ((other c.args.op c.args.n c.if-op-eq5.false c.requires.0).0, c.requires.1, c.requires.2)

pub returns : goal.returns
returns c =
    let a = c.args in
    applied-other c.combine.new.vs c.combine.result a.op a.n (tops a.vs.now a.n) c.requires.0
    c.if-op-eq5.false c.combine.ensures
