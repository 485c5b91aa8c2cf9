use Prim.Native.Nat.{◌+◌, ◌-◌}
use lib.ListN.{get_or}
use Rattle.iterations.proofs.Laws.{part-stored}
use Rattle.iterations.proofs.store_in.Goals as goal

pub returns : goal.returns
returns c =
    let a = c.args in
    rw c.store.ensures
    (part-stored a.memory.now (get_or a.table.now.bases.now a.array 0) (a.i + a.offset - 255) a.x c.requires.1.2)
