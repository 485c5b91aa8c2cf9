use mathlib.Core.Path.{◌≡◌, ◌∙◌, sym, ap}
use mathlib.Core.Bool.{Bool, ◌||◌}
use native.Mathlib.Omega.{arith}
use lib.Dec.{ltb}
use borrow.Author.Rules.{rules}
use borrow.Author.Tests.{tests}
use Rattle.std.specs.List.{list_any}
use Rattle.std.proofs.lemmas.Iterator.{YieldsList-from_slice}
use Rattle.std.proofs.lemmas.Iterator.Search.{any_from_yields_List}
use Rattle.legality.proofs.Laws.{large-any}
use Rattle.legality.proofs.too_large.Goals as goal

pub returns-then-any : goal.returns-then-any
returns-then-any c =
    let a = c.args.a.now in
    let e : c.any.result ≡ list_any (ltb 10000) a.shifts =
    any_from_yields_List (ltb 10000) _ _ c.any.result c.any.ensures.ran (YieldsList-from_slice a.shifts (cc)) (λ x b q k. search (rules, tests)) in
    c.if-any.true ∙ ap (λ (b : Bool). b || list_any (ltb 10000) a.peels) (sym c.if-any.true ∙ e) ∙ large-any a (omega arith) (omega arith)

pub returns-else-any : goal.returns-else-any
returns-else-any c =
    let a = c.args.a.now in
    let e : c.any.result ≡ list_any (ltb 10000) a.shifts =
    any_from_yields_List (ltb 10000) _ _ c.any.result c.any.ensures.ran (YieldsList-from_slice a.shifts (cc)) (λ x b q k. search (rules, tests)) in
    let f : c.any-else-any.result ≡ list_any (ltb 10000) a.peels =
    any_from_yields_List (ltb 10000) _ _ c.any-else-any.result c.any-else-any.ensures.ran (YieldsList-from_slice a.peels (cc)) (λ x b q k. search (rules, tests)) in
    f ∙ ap (λ (b : Bool). b || list_any (ltb 10000) a.peels) (sym c.if-any.false ∙ e) ∙ large-any a (omega arith) (omega arith)
