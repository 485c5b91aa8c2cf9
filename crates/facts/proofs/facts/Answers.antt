use Rattle.std.proofs.lemmas.Result.{err_from_is_err_and}
use Rattle.serial.specs.Serial.{table}
use Rattle.tables.proofs.Nine.{valid}
use Rattle.facts.specs.Facts.{facts_of, facts_given}
use Rattle.numbers.specs.AskedLaws.{entry-refused, entry-given}
use Rattle.facts.proofs.facts.Goals as goal

pub returns-in_err-read_through : goal.returns-in_err-read_through
unfolding facts_given
returns-in_err-read_through c =
    let p = err_from_is_err_and c.from_residual.result c.from_residual.ensures.1 in
    rw (p.1, p.2) (entry-refused (table c.args.s.now) facts_of c.args.out.now _ c.in_err-read_through.ensures)

pub give_facts-requires : goal.give_facts-requires
give_facts-requires c = let h = c.in_ok-read_through.ensures in (h.1, valid c.args.s.now _ h.0)

pub returns : goal.returns
unfolding facts_given
returns c = entry-given (table c.args.s.now) facts_of c.args.out.now c.in_ok-read_through.ensures.0 c.give_facts.ensures
