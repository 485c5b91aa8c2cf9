-- What the code's walks make of the definitions: what is found with the last open phase, and the lowest that passes.
use Prim.Native.Nat.{ℕ, suc, ◌+◌, ◌≤◌, ◌<◌}
use native.Mathlib.Omega.{arith}
use native.Mathlib.Decide.{dec_lt}
use native.Mathlib.Numerals.{add-one}
use mathlib.Core.Path.{◌≡◌, ap, ◌∙◌, sym}
use mathlib.Core.Bool.{Bool, true, false}
use mathlib.Core.List.{List}
use lib.Dec.{ltb}
use borrow.Author.Tests.{lt-ltb, le-ltb}
use Rattle.std.specs.Prelude.{Some, None}
use Rattle.std.specs.Option.{is_some}
use Rattle.blocks.specs.Sums.{column, some}
use Rattle.blocks.specs.SumLaws.{some-here, some-none}
use Rattle.turns.specs.Row.{lowest}
use Rattle.turns.specs.Lowest.{lowest-is, lowest-holds, lowest-none}
use Rattle.barriers.specs.Code.{left_by, last_open_by, beyond_by, wrong_by, ready_by, below}

-- what is found with the last open phase
module _ (P : ℕ) (ends : List (List ℕ)) (counts : List ℕ) (phases m : ℕ) (e : m ≡ last_open_by P ends counts phases) where
  pub ready-found : below P (lowest P (left_by ends counts (m + 1))) ≡ below P (lowest P (ready_by P ends counts phases))
  ready-found = ap (λ (n : ℕ). below P (lowest P (left_by ends counts n))) (add-one m ∙ ap suc e)

  same : some 64 (beyond_by P ends counts m) ≡ wrong_by P ends counts phases
  same = ap (λ (n : ℕ). some 64 (beyond_by P ends counts n)) e

  pub wrong-here : (b : ℕ) → b < 64 → beyond_by P ends counts m b ≡ true → true ≡ wrong_by P ends counts phases
  wrong-here b l h = sym (some-here 64 b (beyond_by P ends counts m) l h) ∙ same

  pub wrong-none : ((b : ℕ) → b < 64 → beyond_by P ends counts m b ≡ false) → false ≡ wrong_by P ends counts phases
  wrong-none h = sym (some-none 64 (beyond_by P ends counts m) h) ∙ same

-- the lowest below n that passes a test
module _ (n : ℕ) (f : ℕ → Bool) where
  pub found-below : (b : ℕ) → b < n → ((k : ℕ) → k < b → f k ≡ false) → f b ≡ true → Some b ≡ below n (lowest n f)
  found-below b l none here = rw (lowest-is n b f (omega arith) none (λ i. here), lt-ltb b n l)

  pub none-below : ((k : ℕ) → k < n → f k ≡ false) → None ≡ below n (lowest n f)
  none-below none = rw (lowest-is n n f (omega arith) none (λ i. absurd (omega arith)), le-ltb n n (omega arith))

  -- there is one if some one passes
  pub some-below : is_some (below n (lowest n f)) ≡ some n f
  some-below = go (dec_lt (lowest n f) n)
    where
      go : Dec (lowest n f < n) → is_some (below n (lowest n f)) ≡ some n f
      go (yes l) = rw (lt-ltb (lowest n f) n l) (sym (some-here n (lowest n f) f l (lowest-holds n f l)))
      go (no l) = rw (le-ltb (lowest n f) n (omega arith)) (sym (some-none n f (λ k i. lowest-none n k f (omega arith) i)))

-- what is found is it
pub below-some : (n m b : ℕ) → Some b ≡ below n m → (b ≡ m) × (b < n)
below-some n m b e = go (dec_lt m n)
  where
    go : Dec (m < n) → (b ≡ m) × (b < n)
    go (yes l) = let q : Some b ≡ Some m = rw (lt-ltb m n l) at e in let z : b ≡ m = cc in (z, omega arith)
    go (no l) = let q : Some b ≡ None = rw (le-ltb m n (omega arith)) at e in absurd (let z : ◌≡◌ {A = ℕ} 0 1 = cc in omega (arith, z))

pub below-none : (n m : ℕ) → None ≡ below n m → n ≤ m
below-none n m e = go (dec_lt m n)
  where
    go : Dec (m < n) → n ≤ m
    go (yes l) = let q : None ≡ Some m = rw (lt-ltb m n l) at e in absurd (let z : ◌≡◌ {A = ℕ} 0 1 = cc in omega (arith, z))
    go (no l) = omega arith

-- no count is below 0, so that no barrier stands before phase 0
pub first-open : (P : ℕ) (counts : List ℕ) → false ≡ some P (λ b. ltb (column counts b) 0)
first-open P counts = sym (some-none P (λ b. ltb (column counts b) 0) (λ b l. le-ltb (column counts b) 0 (omega arith)))
