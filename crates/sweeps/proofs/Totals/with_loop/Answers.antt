use Rattle.reader.specs.Store.{table_in}
use Rattle.sweeps.proofs.Walks.{added}
use Rattle.sweeps.proofs.Totals.with_loop.Goals as goal

pub returns : goal.returns
returns c =
    let a = c.args in
    let z = c.sets_of-sets in
    added a.self (table_in a.store.now) a.k z.result z.ensures c.sizes.result c.union.result c.sizes.ensures.0 c.union.ensures.touches
    c.union.ensures.writes
