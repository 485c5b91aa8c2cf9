use Rattle.std.proofs.Common.{rules}
use mathlib.Core.Path.{ap}
use mathlib.Core.List.{[], ◌∷◌}
use Rattle.reader.specs.Store.{table_in}
use Rattle.text.specs.Puts.{puts-first}
use Rattle.sweeps.specs.declared.Sweeps.{Sweeps}
use Rattle.sweeps.specs.Sweeps.{before, after, sweeps}
use Rattle.numbers.specs.AskedLaws.{two_size, two-put, numbers-short, numbers-put}
use Rattle.entries.proofs.give_sweeps.Goals as goal

pub returns-then-out-lt-PAIR : goal.returns-then-out-lt-PAIR
returns-then-out-lt-PAIR c =
    let a = c.args in
    let t = table_in a.store.now in
    rw c.short.ensures
    (numbers-short (before t ∷ after t ∷ []) a.out.now _ (two_size (before t) (after t)) c.if-out-lt-PAIR.true)

pub returns : goal.returns
unfolding sweeps
returns c =
    let a = c.args in
    let t = table_in a.store.now in
    let e = c.sweeps_of-w.ensures in
    let q = puts-first c.new-row.ensures.bytes c.new-row.ensures.place c.put_pair.ensures in
    let p = two-put (ap (λ (w : Sweeps). w.before) e) (ap (λ (w : Sweeps). w.after) e) q in
    let w = numbers-put (before t ∷ after t ∷ []) a.out.now _ (two_size (before t) (after t)) c.if-out-lt-PAIR.false p in
    search rules
