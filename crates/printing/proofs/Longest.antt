-- The longest listing. Laws alone.
use Rattle.std.specs.Prelude.{ℕ, zero, suc, ◌+◌, ◌*◌, ◌^◌, ◌≤◌, ◌<◌, ◌≡◌, true, false, List, length}
use Rattle.std.proofs.Common.{mul-suc, arith, ap, ◌∙◌}
use Rattle.std.proofs.lemmas.Bool.{false≢true}
use Rattle.marks.specs.Marks.{size}
use Rattle.marks.specs.MarkLaws.{size-most}
use Rattle.model.specs.Table.{Table, count}
use Rattle.model.specs.References.{all_refs}
use Rattle.chains.specs.Dependence.{backward, forward}
use Rattle.chains.specs.TableGraph.{graph}
use Rattle.chains.specs.Bounds.{InRange}
use Rattle.chains.proofs.Bounds.{numbers-small}
use Rattle.chains.proofs.Tables.{all_refs-refs, all_refs-below}
use Rattle.refusals.specs.Answers.{accepted}
use Rattle.grounds.specs.Accepted.{Valid}
use Rattle.lists.specs.Fusion.{Fusion}
use Rattle.plans.specs.Plans.{Settings, Planned, shift_of, peel_of, planned}
use Rattle.plans.proofs.Accepted.{planned-accepts, shift_small, peel-small}
use Rattle.plans.proofs.FromBytes.{own-plan, plan-most}
use Rattle.sweeps.specs.Sweeps.{touched, written, sum_over, union, before, after}
use Rattle.printing.specs.Printing.{listing_of}
use Rattle.printing.specs.Lengths.{loops-four, loops-five, peeled-sum, peeled-still-sum, listing-most}

-- SWEEPS: each of at most sixteen loops touches at most sixteen arrays and writes at most sixteen
sum-most : (f : ℕ → ℕ) (m : ℕ) → ((k : ℕ) → f k ≤ m) → (k n a : ℕ) → sum_over f k n a ≤ a + m * n
sum-most f m h k zero a = omega arith
sum-most f m h k (suc n) a = omega (arith, sum-most f m h (suc k) n (a + f k), h k, mul-suc m n)

before-few : (t : Table) → count t ≤ 16 → before t < 10 ^ 3
before-few t l =
    omega (
      arith,
      sum-most (λ k. size (touched t k) + size (written t k)) 32
          (λ k. omega (arith, size-most (touched t k), size-most (written t k))) 0 (count t) 0,
    )

after-few : (t : Table) → after t < 10 ^ 2
after-few t = omega (arith, size-most (union t (touched t)), size-most (union t (written t)))

-- THE FIRST LOOP, at which no chain ends, has no shift and no peel of its own
module _ (t : Table) (v : Valid t) where
  near : InRange (all_refs t)
  near r m = let (l, i) = all_refs-refs t r m in (v.each r.number l).near r i

  first-shift : shift_of t 0 ≡ 0
  first-shift = omega (arith, numbers-small backward (graph t) 510 (λ x y from to. omega (arith, near y to)) (all_refs-below t v.few-loops) 0)

  first-peel : peel_of t 0 ≡ 0
  first-peel = omega (arith, numbers-small forward (graph t) 510 (λ x y from to. omega (arith, near x from)) (all_refs-below t v.few-loops) 0)

-- THE LAW, of any plan
pub listing-length : (s : List ℕ) (w : Settings) (q : Planned) → planned s w ≡ accepted q → length (listing_of q) ≤ 50000
listing-length s w q e =
    let a = planned-accepts s w q e in
    let t = q.table in
    let few = plan-most s w q e in
    let most = listing-most t q.plan (before t) (after t) a.fit 4 (λ k. omega (arith, (few k).0)) (λ k. omega (arith, (few k).1))
    false (λ z. absurd (false≢true z)) (before-few t a.fit.valid.few-loops) (after-few t) 310 24410 loops-five peeled-sum in
    omega (arith, most)

-- and of one that is not by hand
pub own-listing-length : (s : List ℕ) (w : Settings) (q : Planned) → planned s w ≡ accepted q → w.given ≡ 0 → length (listing_of q) ≤ 48400
own-listing-length s w q e z =
    let a = planned-accepts s w q e in
    let t = q.table in
    let v = a.fit.valid in
    let is = own-plan s w q e z in
    let shift : (k : ℕ) → q.plan.shift k ≡ shift_of t k = λ k. ap (λ (c : Fusion). c.shift k) is in
    let peel : (k : ℕ) → q.plan.peel k ≡ peel_of t k = λ k. ap (λ (c : Fusion). c.peel k) is in
    let most = listing-most t q.plan (before t) (after t) a.fit 3 (λ k. omega (arith, shift k, shift_small t v k)) (λ k. omega (arith, peel k, peel-small t v k))
    true (λ _. (shift 0 ∙ first-shift t v, peel 0 ∙ first-peel t v)) (before-few t v.few-loops) (after-few t) 278 22908 loops-four peeled-still-sum in
    omega (arith, most)
