use Rattle.std.proofs.lemmas.Result.{err_from_is_err_and}
use Rattle.plans.specs.Plans.{planned}
use Rattle.plans.proofs.CodeLaws.{made-laid}
use Rattle.entries.specs.Entries.{blocks_given, blocks_of}
use Rattle.numbers.specs.AskedLaws.{entry-refused, entry-given}
use Rattle.entries.proofs.Laws.{blocks-ask}
use Rattle.entries.proofs.blocks.Goals as goal

pub returns-in_err-axis : goal.returns-in_err-axis
unfolding blocks_given
returns-in_err-axis c =
    let a = c.args in
    let p = err_from_is_err_and c.from_residual.result c.from_residual.ensures.1 in
    rw (p.1, p.2) (entry-refused (planned a.s.now a.w) (λ q. blocks_of q.plan) a.out.now _ c.in_err-axis.ensures)

pub give_blocks-requires : goal.give_blocks-requires
give_blocks-requires c = blocks-ask _ _ (made-laid c.args.s.now c.args.w _ _ c.in_ok-axis.ensures)

pub returns : goal.returns
unfolding blocks_given
returns c =
    let a = c.args in entry-given (planned a.s.now a.w) (λ q. blocks_of q.plan) a.out.now c.in_ok-axis.ensures.is c.give_blocks.ensures
