use native.Mathlib.Numerals.{add-one}
use lib.ListN.{length}
use Rattle.iterations.specs.RunnableLaws.{loaded-body, loaded-rows, loaded-runnable}
use Rattle.iterations.proofs.iterate.Goals as goal

pub run_rows-requires : goal.run_rows-requires
run_rows-requires c =
    let a = c.args in
    let (t, l, h, e) = c.requires in
    rw (c.start_at-past.ensures, c.start_at-from.ensures, add-one a.number)
    record { past_bound = loaded-rows l a.number a.index h; runnable = loaded-runnable l a.number a.index h (length a.memory.now) e }

pub returns : goal.returns
returns c =
    let a = c.args in
    let x = rw (c.start_at-past.ensures, c.start_at-from.ensures, add-one a.number) at c.run_rows.ensures in
    λ t l h. rw (loaded-body l a.number a.index h) (x t.lengths l.based)
