use Rattle.std.proofs.lemmas.Result.{err_from_is_err_and}
use Rattle.serial.specs.Serial.{table}
use mathlib.Core.List.{[], ◌∷◌}
use Rattle.plans.specs.Plans.{threshold_of}
use Rattle.tables.proofs.Nine.{valid}
use Rattle.entries.specs.Entries.{thresholds}
use Rattle.numbers.specs.AskedLaws.{entry-refused, entry-given}
use Rattle.entries.proofs.threshold.Goals as goal

pub returns-in_err-read_through : goal.returns-in_err-read_through
unfolding thresholds
returns-in_err-read_through c =
    let p = err_from_is_err_and c.from_residual.result c.from_residual.ensures.1 in
    rw (p.1, p.2) (entry-refused (table c.args.s.now) (λ t. threshold_of t ∷ []) c.args.out.now _ c.in_err-read_through.ensures)

pub give_threshold-requires : goal.give_threshold-requires
give_threshold-requires c = let h = c.in_ok-read_through.ensures in (h.1, valid c.args.s.now _ h.0)

pub returns : goal.returns
unfolding thresholds
returns c = entry-given (table c.args.s.now) (λ t. threshold_of t ∷ []) c.args.out.now c.in_ok-read_through.ensures.0 c.give_threshold.ensures
