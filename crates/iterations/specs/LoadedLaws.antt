-- Laws of a table in a store.
use Rattle.std.specs.Prelude.{ℕ, zero, suc, ◌+◌, ◌≤◌, ◌≡◌, refl, List, [], ◌∷◌, length, get_or}
use Rattle.std.proofs.Common.{arith, ap, ◌∙◌}
use Rattle.model.specs.Table.{Table}
use Rattle.model.specs.Bodies.{begins}
use Rattle.grounds.specs.Statements.{sum}
use Rattle.bodies.specs.Workable.{Based}
use Rattle.iterations.specs.Memory.{element_total}
use Rattle.iterations.specs.Loaded.{Loaded}
use Rattle.records.specs.declared.storage.Store.{Store}

-- where arrays begin, one after the other
pub begins-none : (ns : List ℕ) → begins ns 0 ≡ 0
begins-none [] = refl
begins-none (n ∷ ns) = refl

pub begins-next : (ns : List ℕ) (a : ℕ) → begins ns (suc a) ≡ begins ns a + get_or ns a 0
begins-next [] a = refl
begins-next (n ∷ ns) zero = omega (arith, begins-none ns)
begins-next (n ∷ ns) (suc a) = omega (arith, begins-next ns a)

pub begins-most : (ns : List ℕ) (a : ℕ) → begins ns a ≤ sum ns
begins-most [] a = omega arith
begins-most (n ∷ ns) zero = omega arith
begins-most (n ∷ ns) (suc a) = omega (arith, begins-most ns a)

-- past the last array the memory ends
begins-past : (ns : List ℕ) (a : ℕ) → length ns ≤ a → begins ns a ≡ sum ns
begins-past [] a h = refl
begins-past (n ∷ ns) zero h = absurd (omega arith)
begins-past (n ∷ ns) (suc a) h = ap (λ (x : ℕ). n + x) (begins-past ns a (omega arith))

pub based-total : (bs ns : List ℕ) (a : ℕ) → Based bs ns → length ns ≤ a → a ≤ 16 → get_or bs a 0 ≡ sum ns
based-total bs ns a b l h = b a h ∙ begins-past ns a l

-- so where the last array ends is how long the memory is
pub loaded-total : {t : Table} {cs : Store} {bs : List ℕ} → Loaded t cs bs → (n : ℕ) → n ≡ get_or bs 16 0 → n ≡ element_total t
loaded-total {t} {cs} {bs} h n e = e ∙ based-total bs t.lengths 16 h.based h.valid.few-arrays (omega arith)
