-- Laws of dependences: the predicate as a proposition, the test of it, which pairs make none, and what a distance means.
use Rattle.std.specs.Prelude.{ℕ, ◌+◌, ◌≤◌, ◌<◌, ◌≡◌, ◌↔◌, false, ◌&&◌, ◌||◌, ltb, eqb}
use Rattle.std.proofs.Common.{⊎_elim, arith}
use Rattle.std.proofs.Math.Bool.{true, or-true, and-false}
use borrow.Author.Tests.{ltb-true, lt-ltb, eqb-true, eq-eqb}
use Rattle.model.specs.declared.Reference.{Reference}
use Rattle.model.specs.Table.{Table, first, last}
use Rattle.model.specs.References.{touch, Touch, Meet}
use Rattle.overlap.specs.Booleans.{both_true, either_true}
use Rattle.overlap.specs.Overlap.{overlap}
use Rattle.overlap.proofs.OverlapLaws.{meeting-is, is-meeting, overlap-meeting}
use Rattle.chains.specs.Dependence.{meet_in, dependence, backward, forward}

-- iteration i + d of y's loop is j
pub meet-amounts : (x y : Reference) (i j : ℕ) → (i + x.offset ≡ j + y.offset) ↔ (j + backward x y ≡ i + forward x y)
meet-amounts x y i j = (λ e. omega arith, λ e. omega arith)

-- `touch` as a proposition
pub touch_is : (x y : Reference) → (touch x y ≡ true) ↔ Touch x y
unfolding touch
touch_is x y = (given, made)
  where
    given : (eqb x.array y.array && (x.stores || y.stores)) ≡ true → Touch x y
    given e =
        let (a, s) = both_true (eqb x.array y.array) (x.stores || y.stores) e in
        (eqb-true _ _ a, either_true x.stores y.stores s)

    made : Touch x y → (eqb x.array y.array && (x.stores || y.stores)) ≡ true
    made (a, s) = rw (eq-eqb _ _ a) (⊎_elim (λ e. rw e) (λ e. rw e (or-true x.stores)) s)

module _ (t : Table) (x y : Reference) where
  -- `dependence` as a proposition: x's loop is the earlier one, and in iterations i and j, each within its loop's bounds, the two are at one
  -- element of one array, one of them storing
  pub record Meets : Type 0 where
    pub earlier-loop : x.number < y.number
    pub i : ℕ
    pub j : ℕ
    pub i-inside : (first t x.number ≤ i) × (i ≤ last t x.number)
    pub j-inside : (first t y.number ≤ j) × (j ≤ last t y.number)
    pub meet : Meet i j x y

  pub dependence-meets : (dependence t x y ≡ true) ↔ Meets
  unfolding dependence
  dependence-meets = (given, made)
    where
      given : (ltb x.number y.number && (touch x y && meet_in t x y)) ≡ true → Meets
      given e =
          let (l, r) = both_true (ltb x.number y.number) (touch x y && meet_in t x y) e in
          let (h, m) = both_true (touch x y) (meet_in t x y) r in
          let (i, j, a, b, c, d, q) = meeting-is _ _ _ _ _ _ m in
          record { earlier-loop = ltb-true _ _ l; i = i; j = j; i-inside = (a, b); j-inside = (c, d); meet = ((touch_is x y).0 h, q) }

      made : Meets → (ltb x.number y.number && (touch x y && meet_in t x y)) ≡ true
      made m =
          rw (
            lt-ltb _ _ m.earlier-loop,
            (touch_is x y).1 m.meet.0,
            is-meeting _ _ _ _ _ _ (m.i, m.j, m.i-inside.0, m.i-inside.1, m.j-inside.0, m.j-inside.1, m.meet.1),
          )

  -- the test of it
  pub dependence-test : dependence t x y
      ≡ (ltb x.number y.number && (touch x y
      && overlap (first t x.number) (last t x.number) x.offset (first t y.number) (last t y.number) y.offset))
  unfolding dependence
  dependence-test = rw (overlap-meeting _ _ _ _ _ _)

  -- of references to one array, one of them storing, the first in the earlier loop, the bounds alone are asked; other references make none
  pub dependence-bounds : x.number < y.number → touch x y ≡ true → dependence t x y ≡ meet_in t x y
  unfolding dependence
  dependence-bounds l e = rw (lt-ltb _ _ l, e)

  pub none-untouched : touch x y ≡ false → dependence t x y ≡ false
  unfolding dependence
  none-untouched e = rw e (and-false (ltb x.number y.number))

  -- two reads make none
  pub none-of-reads : x.stores ≡ false → y.stores ≡ false → dependence t x y ≡ false
  unfolding dependence
  none-of-reads e f = rw (e, f, and-false (eqb x.array y.array)) (and-false (ltb x.number y.number))
