use Rattle.std.proofs.Common.{rules}
use mathlib.Core.List.{[], ◌∷◌}
use Rattle.reader.specs.Store.{table_in}
use Rattle.text.specs.Puts.{puts-first}
use Rattle.plans.specs.Plans.{threshold_of}
use Rattle.numbers.specs.AskedLaws.{one_size, one-put, numbers-short, numbers-put}
use Rattle.entries.proofs.Laws.{threshold-is, threshold-fits}
use Rattle.entries.proofs.give_threshold.Goals as goal

pub returns-then-out-lt-NUMBER : goal.returns-then-out-lt-NUMBER
returns-then-out-lt-NUMBER c =
    let a = c.args in
    let x = threshold_of (table_in a.store.now) in
    rw c.short.ensures (numbers-short (x ∷ []) a.out.now _ (one_size x) c.if-out-lt-NUMBER.true)

pub overflow_cast-x : goal.overflow_cast-x
overflow_cast-x c =
    let m = c.amounts_of-a.ensures in
    let l = threshold-fits c.args.store.now _ _ c.requires.0 m.shifts_value m.peels_value c.requires.1 _ c.threshold_of-x.ensures in
    search rules

pub returns : goal.returns
returns c =
    let a = c.args in
    let x = threshold_of (table_in a.store.now) in
    let m = c.amounts_of-a.ensures in
    let e = threshold-is a.store.now _ _ c.requires.0 m.shifts_value m.peels_value _ c.threshold_of-x.ensures in
    let p = one-put e (puts-first c.new-row.ensures.bytes c.new-row.ensures.place c.put_number.ensures) in
    let w = numbers-put (x ∷ []) a.out.now _ (one_size x) c.if-out-lt-NUMBER.false p in
    search rules
