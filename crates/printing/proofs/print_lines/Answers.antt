use Rattle.printing.proofs.Laws.{no_room, room, lines_are, gives_same}
use Rattle.printing.proofs.print_lines.Goals as goal

pub returns-then-out-total : goal.returns-then-out-total
returns-then-out-total c =
    let a = c.args in
    gives_same (lines_are a.a.now a.store.now _ c.sweeps_of-w.ensures)
    (rw c.short.ensures (no_room _ a.out.now c.write_listing-total.ensures c.if-out-total.true))

pub returns : goal.returns
returns c =
    let a = c.args in
    gives_same (lines_are a.a.now a.store.now _ c.sweeps_of-w.ensures)
    (room _ a.out.now c.write_listing-total.ensures c.write_listing.ensures c.if-out-total.false)
