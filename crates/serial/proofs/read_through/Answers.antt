use Rattle.std.proofs.lemmas.Result.{err_from_is_err_and}
use Rattle.serial.proofs.Walks.{checked, refused-reading}
use Rattle.serial.proofs.read_through.Goals as goal

pub returns-in_err-read_table : goal.returns-in_err-read_table
returns-in_err-read_table c =
    let p = err_from_is_err_and c.from_residual.result c.from_residual.ensures.1 in
    rw (p.1, p.2) (refused-reading c.read_table.new.store c.args.s.now _ c.in_err-read_table.ensures)

pub returns : goal.returns
returns c = checked c.read_table.new.store c.args.s.now c.in_ok-read_table.ensures.0 c.check_loops.result c.check_loops.ensures
