use mathlib.Core.Path.{sym, ◌∙◌}
use Rattle.serial.proofs.Walks.{loop-apart}
use Rattle.serial.proofs.Offsets.{none-collide}
use Rattle.serial.proofs.several_hit.Goals as goal

pub returns : goal.returns
returns c =
    let s = c.args.store.now in
    let r = c.rows_of-rows.result in
    loop-apart s c.requires.0 c.args.k c.requires.1 r c.rows_of-rows.ensures.is
    (none-collide s r.first r.last _ _ _ c.stored_offsets-offsets.ensures (sym c.if-some_differs.false ∙ c.some_differs.ensures))
