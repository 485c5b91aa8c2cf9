use Rattle.std.proofs.lemmas.Result.{err_from_is_err_and}
use Rattle.serial.specs.Serial.{table}
use mathlib.Core.List.{[], ◌∷◌}
use Rattle.sweeps.specs.Sweeps.{before, after}
use Rattle.entries.specs.Entries.{sweeps_given}
use Rattle.numbers.specs.AskedLaws.{entry-refused, entry-given}
use Rattle.entries.proofs.sweeps.Goals as goal

pub returns-in_err-read_through : goal.returns-in_err-read_through
unfolding sweeps_given
returns-in_err-read_through c =
    let p = err_from_is_err_and c.from_residual.result c.from_residual.ensures.1 in
    rw (p.1, p.2) (entry-refused (table c.args.s.now) (λ t. before t ∷ after t ∷ []) c.args.out.now _ c.in_err-read_through.ensures)

pub returns : goal.returns
unfolding sweeps_given
returns c = entry-given (table c.args.s.now) (λ t. before t ∷ after t ∷ []) c.args.out.now c.in_ok-read_through.ensures.0 c.give_sweeps.ensures
