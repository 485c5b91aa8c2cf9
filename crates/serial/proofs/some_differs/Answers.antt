use Rattle.std.proofs.Common.{ℕ, zero, suc, ◌-◌, add-one, ◌≡◌, Bool, ◌||◌, refl, ap, ◌∙◌, rules, tests}
use Rattle.std.specs.List.{list_any, range_with_len}
use Rattle.std.proofs.lemmas.Iterator.{YieldsList-from_range}
use Rattle.std.proofs.lemmas.Iterator.Search.{any_from_yields_List}
use Rattle.overlap.specs.Overlap.{some_from}
use Rattle.serial.specs.Rows.{differs}
use Rattle.serial.proofs.some_differs.Goals as goal

-- one of n numbers from f on, as a list and as it is said
any-from : (p : ℕ → Bool) (f n : ℕ) → list_any p (range_with_len f n) ≡ some_from p f n
unfolding some_from
any-from p f zero = refl
any-from p f (suc n) = rw add-one (ap (λ (b : Bool). p f || b) (any-from p (suc f) n))

pub returns : goal.returns
returns c =
    let a = c.args in
    let p = differs a.store.now a.offsets.now in
    any_from_yields_List p _ _ _ c.any.ensures.ran (YieldsList-from_range a.from a.past (a.past - a.from) refl refl) (λ x b q k. search (rules, tests))
    ∙ any-from p a.from (a.past - a.from)
