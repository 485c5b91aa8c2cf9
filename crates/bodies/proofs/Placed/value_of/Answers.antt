use mathlib.Core.List.{[]}
use Prim.Native.Nat.{◌-◌}
use mathlib.Core.Path.{◌≡◌}
use borrow.Author.Rules.{rules}
use Rattle.reader.specs.Store.{lead_from}
use Rattle.bodies.proofs.Work.{at-bottom}
use Rattle.bodies.proofs.Placed.value_of.Goals as goal

pub returns-clause-by_index : goal.returns-clause-by_index
returns-clause-by_index c =
    let a = c.args in
    let n = c.default-none in
    let none : n.result.count ≡ 0 = search rules in
    let w = c.work_rows-worked in
    λ ns b. at-bottom (lead_from a.self.now.store.now a.from (a.past - a.from) []) ns a.i a.memory.now n.result w.result.waiting none
    w.ensures.count_value.0 (w.ensures.by_index ns b)
