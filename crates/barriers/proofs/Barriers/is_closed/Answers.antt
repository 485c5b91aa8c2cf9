use Rattle.std.proofs.Common.{◌∙◌, ap}
use Rattle.std.specs.Option.{is_some}
use Rattle.barriers.specs.Code.{left_by}
use Rattle.barriers.proofs.Laws.{first-open, some-below}
use Rattle.barriers.proofs.Barriers.is_closed.Goals as goal

pub returns-then-phase-ne0 : goal.returns-then-phase-ne0
returns-then-phase-ne0 c =
    let a = c.args in
    c.is_some.ensures ∙ ap is_some c.lowest_left.ensures ∙ some-below a.self.now.processors (left_by a.self.now.ends.now a.counts.now a.phase)

pub returns-else-phase-ne0 : goal.returns-else-phase-ne0
returns-else-phase-ne0 c = rw c.if-phase-ne0.false (first-open c.args.self.now.processors c.args.counts.now)
