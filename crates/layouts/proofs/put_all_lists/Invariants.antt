use Rattle.layouts.specs.Layout.{Standing}
use Rattle.layouts.proofs.put_all_lists.Given as goal

abbrev pub invariant-loop-b : goal.invariant-loop-b
invariant-loop-b l = Standing l.a l.store l.initial.lists l.lists l.b
