use Rattle.std.proofs.lemmas.Result.{err_from_is_err_and}
use Rattle.plans.specs.Plans.{planned_for}
use Rattle.entries.specs.Entries.{ranges_given, ranges_of}
use Rattle.numbers.specs.AskedLaws.{entry-refused, entry-given}
use Rattle.entries.proofs.Laws.{named-laid}
use Rattle.entries.proofs.ranges.Goals as goal

pub returns-in_err-axis : goal.returns-in_err-axis
unfolding ranges_given
returns-in_err-axis c =
    let a = c.args in
    let p = err_from_is_err_and c.from_residual.result c.from_residual.ensures.1 in
    rw (p.1, p.2) (entry-refused (planned_for a.s.now a.w a.b) (ranges_of a.phase a.b) a.out.now _ c.in_err-axis.ensures)

pub give_ranges-requires : goal.give_ranges-requires
give_ranges-requires c = named-laid c.args.s.now c.args.w c.args.b _ _ c.in_ok-axis.ensures

pub returns : goal.returns
unfolding ranges_given
returns c =
    let a = c.args in
    entry-given (planned_for a.s.now a.w a.b) (ranges_of a.phase a.b) a.out.now c.in_ok-axis.ensures.is c.give_ranges.ensures
