use Prim.Native.Nat.{ℕ, ◌*◌}
use native.Mathlib.Omega.{arith}
use mathlib.Core.Path.{◌∙◌, sym, ap}
use borrow.Author.Tests.{ne_eqb}
use Rattle.std.proofs.lemmas.Result.{err_from_is_err_and}
use Rattle.model.specs.Table.{count}
use Rattle.reader.specs.Store.{table_in}
use Rattle.reader.specs.Held.{count_held}
use Rattle.legality.specs.Written.{amounts_in}
use Rattle.legality.specs.ByHand.{by_hand}
use Rattle.legality.proofs.Laws.{hand-err, hand-ok}
use Rattle.legality.proofs.by_hand.Goals as goal

pub returns-then-used-loops : goal.returns-then-used-loops
unfolding by_hand
returns-then-used-loops c =
    let a = c.args in
    let z = ne_eqb a.used (8 * count (table_in a.store.now)) (λ e. c.if-used-loops.true (omega (arith, count_held c.requires.0))) in
    rw (c.met.ensures, z)

pub returns-in_err-judged : goal.returns-in_err-judged
returns-in_err-judged c =
    let a = c.args in
    let loops = c.loops_in-loops.ensures ∙ sym (count_held c.requires.0) in
    let p = err_from_is_err_and c.from_residual.result c.from_residual.ensures.1 in
    rw (p.1, p.2)
    (hand-err (table_in a.store.now) a.used a.bytes.now (omega (arith, loops)) c.read_amounts-a.result
    (c.read_amounts-a.ensures ∙ ap (λ (n : ℕ). amounts_in 2 0 n a.bytes.now) loops) _ c.in_err-judged.ensures)

pub returns : goal.returns
returns c =
    let a = c.args in
    let loops = c.loops_in-loops.ensures ∙ sym (count_held c.requires.0) in
    hand-ok (table_in a.store.now) a.used a.bytes.now (omega (arith, loops)) c.read_amounts-a.result
    (c.read_amounts-a.ensures ∙ ap (λ (n : ℕ). amounts_in 2 0 n a.bytes.now) loops) c.in_ok-judged.ensures
