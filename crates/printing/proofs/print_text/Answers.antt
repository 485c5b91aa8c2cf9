use Rattle.plans.proofs.CodeLaws.{made-laid}
use Rattle.printing.proofs.Laws.{refused-printed, made-printed}
use Rattle.printing.proofs.print_text.Goals as goal

pub print_lines-requires : goal.print_lines-requires
print_lines-requires c = made-laid c.args.s.now c.args.w _ _ c.in-Ok.ensures

pub returns-in-Ok : goal.returns-in-Ok
returns-in-Ok c = made-printed c.args.s.now c.args.w c.args.out.now _ _ c.in-Ok.ensures c.print_lines.ensures

pub returns-in-Err : goal.returns-in-Err
returns-in-Err c =
    refused-printed c.args.s.now c.args.w c.args.out.now _ c.in-Err.ensures
    c.print_refusal.ensures.gives c.print_refusal.ensures.place_len_bound
