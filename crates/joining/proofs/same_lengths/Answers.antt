use native.Mathlib.Omega.{arith}
use mathlib.Core.Path.{◌≡◌, sym, ◌∙◌}
use lib.ListN.{length, take}
use lib.Seq.{length-take-le}
use borrow.Author.Tests.{ne_eqb}
use Rattle.reader.specs.Store.{arrays_in}
use Rattle.reader.specs.Held.{few-arrays}
use Rattle.joining.proofs.Walks.{alike-long}
use Rattle.joining.proofs.same_lengths.Goals as goal

pub returns-else-n-arrays_in : goal.returns-else-n-arrays_in
returns-else-n-arrays_in c =
    let x = c.args.ours.now in
    let y = c.args.theirs.now in
    let m : length (take (arrays_in x) x.lengths) ≡ arrays_in x = length-take-le (arrays_in x) x.lengths (omega (arith, x.sized.lengths_sized, few-arrays c.requires.0)) in
    let n : length (take (arrays_in y) y.lengths) ≡ arrays_in y = length-take-le (arrays_in y) y.lengths (omega (arith, y.sized.lengths_sized, few-arrays c.requires.1)) in
    ne_eqb _ _ c.if-n-arrays_in.false
    ∙ sym (alike-long _ _ (λ e. c.if-n-arrays_in.false (omega (arith, e, m, n, c.arrays_in-n.ensures, c.arrays_in.ensures))))
