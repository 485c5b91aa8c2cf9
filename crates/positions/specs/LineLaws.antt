-- Laws of lines.
use Rattle.std.specs.Prelude.{◌≡◌, List, ℕ, suc, ◌+◌, ◌*◌, ◌≤◌, ◌<◌, ◌^◌, min, max, length}
use Rattle.std.proofs.Common.{◌∙◌, ap, mul-add, add-mul, mul-suc, mul_comm, mul-zero, add-one, arith}
use Rattle.blocks.specs.declared.Range.{Range}
use Rattle.blocks.specs.Sums.{total, column}
use Rattle.lists.specs.Lists.{ranges}
use Rattle.lists.specs.Below.{clip, weighted, below}
use Rattle.lists.proofs.BelowLaws.{below-first}
use Rattle.positions.specs.Search.{below_columns, Located, weight-product, below_all}
use Rattle.positions.specs.declared.Position.{Position}
use Rattle.positions.specs.declared.Line.{Line}
use Rattle.positions.specs.Lines.{Counted, Extended, Linear, OnLine}

pub extended_none : (l : Line) (r : Range) (s w : ℕ) → r.past ≤ r.from → Extended l r s w l
extended_none l r s w h = record { count = same; slope = omega arith; offset = omega arith }
  where
    same : (t b : ℕ) → Counted l t b → Counted l t (b + w * clip r s t)
    same t b c g i = let e : clip r s t ≡ 0 = omega arith in rw (e, mul-zero w) (omega (arith, c g i))

pub extended-more : (l m : Line) (r : Range) (s w : ℕ) → r.from + s < 2 ^ 33 → w ≤ 65536
    → m.from ≡ max l.from (r.from + s) → m.past ≡ min l.past (r.past + s)
    → m.slope ≡ l.slope + w → m.offset ≡ l.offset + w * (r.from + s) → Extended l r s w m
extended-more l m r s w small light f p q o =
    record { count = more; slope = omega arith; offset = omega (arith, weight-product w (r.from + s) (2 ^ 33) light small) }
  where
    more : (t b : ℕ) → Counted l t b → Counted m t (b + w * clip r s t)
    more t b c g i =
        let e : t ≡ clip r s t + (r.from + s) = omega arith in
        let a : m.slope * t ≡ l.slope * t + w * t = rw q (add-mul l.slope w t) in
        let d : w * t ≡ w * clip r s t + w * (r.from + s) = ap (λ (x : ℕ). w * x) e ∙ mul-add w (clip r s t) (r.from + s) in
        omega (arith, c (omega arith) (omega arith))

-- the walk over the loops
pub line-next : (r : ℕ → Range) (s w : ℕ → ℕ) (l m : Line) (k : ℕ) → Extended l (r k) (s k) (w k) m
    → ((t : ℕ) → Counted l t (total k (weighted r s w t))) → (t : ℕ) → Counted m t (total (k + 1) (weighted r s w t))
unfolding weighted
line-next r s w l m k e c t = rw add-one (e.count t (total k (weighted r s w t)) (c t))

pub line-end : (K : ℕ) (r : ℕ → Range) (s w : ℕ → ℕ) (l : Line) (k : ℕ) → K ≤ k → k ≤ K
    → ((t : ℕ) → Counted l t (total k (weighted r s w t))) → (t : ℕ) → Counted l t (below K r s w t)
line-end K r s w l k g h c t = rw (below_all K r s w t k g h) at (c t)

-- where the line holds at t and at t + 1, its n-th is the n-th
pub line-located : (fs ps ss ws : List ℕ) (most n : ℕ) (l : Line) (p : Position) → Linear fs ps ss ws l → OnLine l n p
    → l.from ≤ p.sum → p.sum < l.past → n < below_columns fs ps ss ws most → Located fs ps ss ws most n p
line-located fs ps ss ws most n l p c o g h i =
    let e = c.count p.sum g (omega arith) in
    let f = c.count (suc p.sum) (omega arith) (omega arith) in
    let q = mul_comm l.slope p.sum in
    record {
      inside = below-first (length fs) (ranges fs ps) (column ss) (column ws) p.sum most n (omega (arith, o.whole)) i;
      low = omega (arith, o.whole);
      high = omega (arith, o.whole, o.rest, mul-suc l.slope p.sum);
      before = omega (arith, o.whole);
    }
