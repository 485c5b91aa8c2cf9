use mathlib.Core.Path.{◌∙◌, sym}
use Rattle.reader.specs.Store.{table_in}
use Rattle.legality.specs.ByHand.{judged}
use Rattle.legality.proofs.Laws.{judged-unmet, judged-fine}
use Rattle.legality.proofs.judged.Goals as goal

pub returns-then-too_large : goal.returns-then-too_large
unfolding judged
returns-then-too_large c = let e = sym c.too_large.ensures ∙ c.if-too_large.true in rw (c.met.ensures, e)

pub returns-in-Some : goal.returns-in-Some
returns-in-Some c =
    rw (c.naming.ensures, judged-unmet (table_in c.args.store.now) c.args.a.now (sym c.too_large.ensures ∙ c.if-too_large.false) _ _ c.in-Some.ensures)

pub returns-in-None : goal.returns-in-None
returns-in-None c = rw (judged-fine (table_in c.args.store.now) c.args.a.now (sym c.too_large.ensures ∙ c.if-too_large.false) c.in-None.ensures)
