-- Fewer dependences give no larger numbers. So where loops' bounds are asked, no shift and no peel is larger than where they play no part.
use Rattle.std.specs.Prelude.{ℕ, ◌≤◌, ◌<◌, ◌≡◌, ◌↔◌, Bool, true, ◌&&◌, ltb, get_or}
use mathlib.Core.List.{Memᴰ as Mem}
use Rattle.std.proofs.Common.{ltb-true, lt-ltb}
use Rattle.model.specs.declared.Reference.{Reference}
use Rattle.model.specs.Table.{Table, count}
use Rattle.model.specs.References.{touch, Touch, all_refs}
use Rattle.overlap.specs.Booleans.{both_true}
use Rattle.chains.specs.Graph.{Graph, Dependence}
use Rattle.chains.proofs.DependenceLaws.{touch_is, dependence-meets}
use Rattle.chains.specs.TableGraph.{graph}
use Rattle.chains.specs.Fewer.{without_bounds}
use Rattle.chains.specs.Walk.{numbers, Ordered, Below}
use Rattle.chains.proofs.Largest.{numbers-legal, numbers-least}
use Rattle.chains.proofs.Tables.{all_refs-ordered, all_refs-below}

module _ {R : Type 0} (amount : R → R → ℕ) (g : Graph R) (depends : R → R → Bool)
    (earlier : (x y : R) → depends x y ≡ true → g.number x < g.number y) (fewer : (x y : R) → depends x y ≡ true → g.depends x y ≡ true) where
  abbrev pub thinned : Graph R
  thinned = record { references = g.references; number = g.number; depends = depends; earlier = earlier }

  -- what meets every dependence meets fewer of them
  pub fewer-smaller : Ordered g g.references → Below 16 g g.references → (k : ℕ) → get_or (numbers amount thinned) k 0 ≤ get_or (numbers amount g) k 0
  fewer-smaller o b =
      numbers-least amount thinned o b (numbers amount g)
      (λ x y d. numbers-legal amount g o b x y (record { from = d.from; to = d.to; joined = fewer x y d.joined }))

-- where bounds play no part any reference of an earlier loop and one of a later loop to its array make a dependence, if one of them stores
pub without-touch : (t : Table) (x y : Reference)
    → Dependence (without_bounds t) x y ↔ (Mem x (all_refs t) × Mem y (all_refs t) × (x.number < y.number) × Touch x y)
without-touch t x y = (given, made)
  where
    given : Dependence (without_bounds t) x y → Mem x (all_refs t) × Mem y (all_refs t) × (x.number < y.number) × Touch x y
    given d = let (l, h) = both_true (ltb x.number y.number) (touch x y) d.joined in (d.from, d.to, ltb-true _ _ l, (touch_is x y).0 h)

    made : Mem x (all_refs t) × Mem y (all_refs t) × (x.number < y.number) × Touch x y → Dependence (without_bounds t) x y
    made (m, n, l, h) = record { from = m; to = n; joined = rw (lt-ltb _ _ l, (touch_is x y).1 h) }

pub never-larger : (t : Table) → count t ≤ 16 → (amount : Reference → Reference → ℕ) (k : ℕ)
    → get_or (numbers amount (graph t)) k 0 ≤ get_or (numbers amount (without_bounds t)) k 0
never-larger t few amount = fewer-smaller amount (without_bounds t) _ _ fewer (all_refs-ordered t) (all_refs-below t few)
  where
    fewer : (x y : Reference) → (graph t).depends x y ≡ true → (ltb x.number y.number && touch x y) ≡ true
    fewer x y e = let m = (dependence-meets t x y).0 e in rw (lt-ltb _ _ m.earlier-loop, (touch_is x y).1 m.meet.0)
