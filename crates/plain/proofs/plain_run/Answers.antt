use Rattle.std.proofs.lemmas.Result.{err_from_is_err_and}
use Rattle.reader.specs.Store.{table_in}
use Rattle.tables.proofs.Nine.{valid}
use Rattle.plain.proofs.Laws.{run-refused, run-accepted}
use Rattle.plain.proofs.plain_run.Goals as goal

pub returns-in_err-read_through : goal.returns-in_err-read_through
returns-in_err-read_through c =
    let a = c.args in
    let p = err_from_is_err_and c.from_residual.result c.from_residual.ensures.1 in
    let (e, f) = run-refused a.s.now a.memory.now _ c.in_err-read_through.ensures in
    record { value = rw (p.1, p.2) e; memory_after = f }

pub run_table-requires : goal.run_table-requires
run_table-requires c =
    let (e, held) = c.in_ok-read_through.ensures in
    (held, valid c.args.s.now (table_in c.read_through.new.store) e)

pub returns : goal.returns
returns c =
    let a = c.args in
    let r = c.run_table in
    let (e, f) = run-accepted a.s.now a.memory.now _ c.in_ok-read_through.ensures.0 r.result _ r.ensures.value r.ensures.memory_after in
    record { value = e; memory_after = f }
