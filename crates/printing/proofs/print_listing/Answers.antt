use Rattle.std.proofs.lemmas.Result.{err_from_is_err_and}
use Rattle.plans.proofs.CodeLaws.{made-laid}
use Rattle.printing.proofs.Laws.{refused-given, made-given}
use Rattle.printing.proofs.print_listing.Goals as goal

pub returns-in_err-axis : goal.returns-in_err-axis
returns-in_err-axis c =
    let p = err_from_is_err_and c.from_residual.result c.from_residual.ensures.1 in
    rw (p.1, p.2) (refused-given c.args.s.now c.args.w c.args.out.now _ c.in_err-axis.ensures)

pub print_lines-requires : goal.print_lines-requires
print_lines-requires c = made-laid c.args.s.now c.args.w _ _ c.in_ok-axis.ensures

pub returns : goal.returns
returns c = made-given c.args.s.now c.args.w c.args.out.now _ _ c.in_ok-axis.ensures c.print_lines.ensures
