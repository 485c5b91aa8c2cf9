-- Laws of blocks on whole lines of W indices: they follow on each other, each but the last is a whole number of lines, and every index is in one
-- of them; ground 11 as a statement, and by the last block alone; and with lines of one index they are the blocks that T is split into.
use Rattle.std.specs.Prelude.{◌≡◌, ◌⊎◌, Bool, ◌&&◌, ◌||◌}
use Rattle.std.proofs.Math.Path.{refl, ap}
use Rattle.std.proofs.Common.{sym, ◌∙◌, mul-suc, mul-add, div-one}
use Rattle.std.proofs.Math.Logic.{inl, inr}
use Rattle.std.proofs.Math.Bool.{true, false}
use Rattle.std.proofs.lemmas.Bool.{false≢true}
use Prim.Native.Nat.{ℕ, zero, suc, ◌+◌, ◌-◌, ◌*◌, ◌/◌, ◌≤◌, ◌<◌, min}
use Rattle.std.proofs.Math.Nat.{mul-zero, one-mul, mul-le-mul_left, mod-lt, div-add-mod}
use Rattle.std.proofs.Math.Decide.{dec_lt, ℕ_discrete}
use native.Mathlib.Omega.{arith}
use Rattle.std.proofs.Math.Dec.{ltb, leb}
use borrow.Author.Tests.{ltb-true, ltb-false, leb-true, leb-false, lt-ltb, le-ltb}
use Rattle.blocks.specs.Sums.{some}
use Rattle.blocks.specs.SumLaws.{some-here, some-none, some-which, some-each, some_same}
use Rattle.blocks.specs.Blocks.{lines, size, start, before, width, is_short}
use Rattle.blocks.proofs.BlockLaws.{size-least, size-last, size-some, start_first, start-next, start_up, start-last}

-- what the code computes
pub lines_at : (T W : ℕ) → (T + W - 1) / W ≡ lines T W
unfolding lines
lines_at T W = refl

pub before_at : (T W P b : ℕ) → min (W * start (lines T W) P b) T ≡ before T W P b
unfolding before
before_at T W P b = refl

-- LINES are enough, and one fewer is not
module _ (T W : ℕ) (wide : 0 < W) where
  pub lines-enough : T ≤ W * lines T W
  unfolding lines
  lines-enough = omega (arith, div-add-mod (T + W - 1) W, mod-lt (T + W - 1) wide)

  pub lines-tight : W * lines T W < T + W
  unfolding lines
  lines-tight = omega (arith, div-add-mod (T + W - 1) W)

-- W times the lines before a block fits where T and W do
pub lines_fit : (T W P b : ℕ) → 0 < W → 0 < P → b ≤ P → W * start (lines T W) P b < T + W
lines_fit T W P b wide pos l =
    let up : start (lines T W) P b ≤ lines T W = omega (arith, start_up (lines T W) P b P l, start-last (lines T W) P pos) in
    omega (arith, mul-le-mul_left W up, lines-tight T W wide)

-- BLOCKS
module _ (T W P : ℕ) where
  abbrev L : ℕ
  L = lines T W

  pub before-first : before T W P 0 ≡ 0
  unfolding before
  before-first = omega (arith, ap (λ (x : ℕ). W * x) (start_first L P) ∙ mul-zero W)

  pub before-up : (a b : ℕ) → a ≤ b → before T W P a ≤ before T W P b
  unfolding before
  before-up a b l = omega (arith, mul-le-mul_left W (start_up L P a b l))

  pub before-most : (b : ℕ) → before T W P b ≤ T
  unfolding before
  before-most b = omega arith

  module _ (wide : 0 < W) (pos : 0 < P) where
    -- the last block ends at the last index
    pub before_last : before T W P P ≡ T
    unfolding before
    before_last = omega (arith, lines-enough T W wide, ap (λ (x : ℕ). W * x) (start-last L P pos))

    module _ (enough : P ≤ L) where
      -- lines up to the end of a block
      next : (b : ℕ) → W * start L P (suc b) ≡ W * start L P b + W * size L P b
      next b = ap (λ (x : ℕ). W * x) (start-next L P b) ∙ mul-add W (start L P b) (size L P b)

      -- a block that begins at a line begins before the last index: nothing is cut from it in front
      inside : (b : ℕ) → b < P → W * start L P b < T
      inside b l =
          let up = start_up L P (suc b) P l in
          let all = start-last L P pos in
          let below : suc (start L P b) ≤ L = omega (arith, start-next L P b, size-some L P pos enough b) in
          omega (arith, mul-le-mul_left W below, mul-suc W (start L P b), lines-tight T W wide)

      -- BLOCK b begins W times the lines before it after the first index
      pub before-whole : (b : ℕ) → b < P → before T W P b ≡ W * start L P b
      unfolding before
      before-whole b l = omega (arith, inside b l)

      -- every block but the last is a whole number of lines
      pub before-next : (b : ℕ) → suc b < P → before T W P (suc b) ≡ before T W P b + W * size L P b
      before-next b l = omega (arith, before-whole b (omega arith), before-whole (suc b) l, next b)

      -- none is empty
      pub before-rises : (b : ℕ) → b < P → before T W P b < before T W P (suc b)
      before-rises b l = go (ℕ_discrete (suc b) P)
        where
          go : Dec (suc b ≡ P) → before T W P b < before T W P (suc b)
          go (yes e) = omega (arith, before-whole b l, inside b l, ap (before T W P) e ∙ before_last)
          go (no e) =
              omega (arith, before-next b (omega arith), mul-le-mul_left W (size-some L P pos enough b), mul-suc W 0, mul-zero W)

      -- and the last one is the smallest
      pub width-least : (b : ℕ) → b < P → T - before T W P (P - 1) ≤ width T W P b
      width-least b l = go (ℕ_discrete (suc b) P)
        where
          e : suc (P - 1) ≡ P
          e = omega arith

          go : Dec (suc b ≡ P) → T - before T W P (P - 1) ≤ width T W P b
          go (yes f) =
              let same : P - 1 ≡ b = omega arith in
              omega (arith, ap (before T W P) same, ap (before T W P) f ∙ before_last)
          go (no f) =
              omega (
                arith,
                before-next b (omega arith),
                before-whole (P - 1) (omega arith),
                lines-enough T W wide,
                next (P - 1),
                ap (λ (x : ℕ). W * start L P x) e,
                ap (λ (x : ℕ). W * x) (start-last L P pos),
                ap (λ (x : ℕ). W * x) (size-last L P (P - 1) e),
                mul-le-mul_left W (size-least L P b),
              )

    -- EVERY INDEX is in a block
    pub some_block : (i : ℕ) → i < T → (b : ℕ) × (b < P) × (before T W P b ≤ i) × (i < before T W P (suc b))
    some_block i l = go P (omega arith) (omega (arith, before_last))
      where
        go : (n : ℕ) → n ≤ P → i < before T W P n → (b : ℕ) × (b < P) × (before T W P b ≤ i) × (i < before T W P (suc b))
        go zero m h = absurd (omega (arith, before-first))
        go (suc n) m h = at (dec_lt i (before T W P n)) (go n)
          where
            at : Dec (i < before T W P n) → (n ≤ P → i < before T W P n → (b : ℕ) × (b < P) × (before T W P b ≤ i) × (i < before T W P (suc b)))
                → (b : ℕ) × (b < P) × (before T W P b ≤ i) × (i < before T W P (suc b))
            at (yes q) ih = ih (omega arith) q
            at (no q) ih = (n, m, omega arith, h)

  -- and in no other
  pub one_block : (i a b : ℕ) → before T W P a ≤ i → i < before T W P (suc a) → before T W P b ≤ i → i < before T W P (suc b) → a ≡ b
  one_block i a b from past from' past' = go (dec_lt a b) (dec_lt b a)
    where
      go : Dec (a < b) → Dec (b < a) → a ≡ b
      go (yes l) m = absurd (omega (arith, before-up (suc a) b l))
      go (no l) (yes m) = absurd (omega (arith, before-up (suc b) a m))
      go (no l) (no m) = omega arith

-- GROUND 11: given, it holds; not given, it does not hold
module _ (T W P threshold : ℕ) where
  pub short-given : is_short T W P threshold ≡ true → (lines T W < P) ⊎ ((2 ≤ P) × (b : ℕ) × (b < P) × (width T W P b < threshold))
  unfolding is_short
  short-given = go (ltb (lines T W) P) (leb 2 P) (some P (λ b. ltb (width T W P b) threshold)) refl refl refl
    where
      go : (x y z : Bool) → ltb (lines T W) P ≡ x → leb 2 P ≡ y → some P (λ b. ltb (width T W P b) threshold) ≡ z → (x || y && z) ≡ true
          → (lines T W < P) ⊎ ((2 ≤ P) × (b : ℕ) × (b < P) × (width T W P b < threshold))
      go true y z e f g q = inl (ltb-true (lines T W) P e)
      go false true true e f g q =
          let (b, l, h) = some-which P (λ b. ltb (width T W P b) threshold) g in
          inr (leb-true 2 P f, b, l, ltb-true (width T W P b) threshold h)
      go false true false e f g q = absurd (false≢true q)
      go false false z e f g q = absurd (false≢true q)

  pub short-not : is_short T W P threshold ≡ false → (P ≤ lines T W) × (2 ≤ P → (b : ℕ) → b < P → threshold ≤ width T W P b)
  unfolding is_short
  short-not = go (ltb (lines T W) P) (leb 2 P) (some P (λ b. ltb (width T W P b) threshold)) refl refl refl
    where
      go : (x y z : Bool) → ltb (lines T W) P ≡ x → leb 2 P ≡ y → some P (λ b. ltb (width T W P b) threshold) ≡ z → (x || y && z) ≡ false
          → (P ≤ lines T W) × (2 ≤ P → (b : ℕ) → b < P → threshold ≤ width T W P b)
      go true y z e f g q = absurd (false≢true (sym q))
      go false true true e f g q = absurd (false≢true (sym q))
      go false true false e f g q =
          (ltb-false (lines T W) P e, λ l b i. ltb-false (width T W P b) threshold (some-each P b (λ b. ltb (width T W P b) threshold) g i))
      go false false z e f g q = (ltb-false (lines T W) P e, λ l. absurd (omega (arith, leb-false 2 P f)))

  -- the last block alone decides
  pub short-at : 0 < W → is_short T W P threshold ≡ (ltb (lines T W) P || leb 2 P && ltb (T - before T W P (P - 1)) threshold)
  unfolding is_short
  short-at wide = go (ltb (lines T W) P) (leb 2 P) refl refl
    where
      least : 2 ≤ P → P ≤ lines T W → some P (λ b. ltb (width T W P b) threshold) ≡ ltb (T - before T W P (P - 1)) threshold
      least two enough = at (ltb (T - before T W P (P - 1)) threshold) refl
        where
          e : suc (P - 1) ≡ P
          e = omega arith

          at : (t : Bool) → ltb (T - before T W P (P - 1)) threshold ≡ t → some P (λ b. ltb (width T W P b) threshold) ≡ t
          at true q =
              some-here P (P - 1) (λ b. ltb (width T W P b) threshold) (omega arith)
              (lt-ltb (width T W P (P - 1)) threshold (omega (arith, ltb-true (T - before T W P (P - 1)) threshold q, ap (before T W P) e ∙ before_last T W P wide (omega arith))))
          at false q =
              some-none P (λ b. ltb (width T W P b) threshold)
              (λ b l. le-ltb (width T W P b) threshold (omega (arith, ltb-false (T - before T W P (P - 1)) threshold q, width-least T W P wide (omega arith) enough b l)))

      go : (x y : Bool) → ltb (lines T W) P ≡ x → leb 2 P ≡ y
          → (x || y && some P (λ b. ltb (width T W P b) threshold)) ≡ (x || y && ltb (T - before T W P (P - 1)) threshold)
      go true y e f = refl
      go false true e f = least (leb-true 2 P f) (ltb-false (lines T W) P e)
      go false false e f = refl

-- LINES OF ONE INDEX: the blocks are those that T is split into, and 11 asks for T
pub lines-one : (T : ℕ) → lines T 1 ≡ T
unfolding lines
lines-one T = div-one (T + 1 - 1) ∙ omega arith

module _ (T P : ℕ) (pos : 0 < P) where
  pub before-one : (b : ℕ) → b ≤ P → before T 1 P b ≡ start T P b
  unfolding before
  before-one b l = omega (arith, ap (λ (n : ℕ). 1 * start n P b) (lines-one T) ∙ one-mul (start T P b), start_up T P b P l, start-last T P pos)

  pub short-one : (threshold : ℕ) → is_short T 1 P threshold ≡ (ltb T P || leb 2 P && some P (λ b. ltb (size T P b) threshold))
  unfolding is_short
  short-one threshold =
      rw (
        lines-one T,
        some_same P (λ b. ltb (width T 1 P b) threshold) (λ b. ltb (size T P b) threshold)
            (λ b l. ap (λ (x : ℕ). ltb x threshold) (omega (arith, before-one b (omega arith), before-one (suc b) l, start-next T P b))),
      )
