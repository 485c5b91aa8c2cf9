-- Laws of the walk: what a step of it changes.
use Rattle.std.specs.Prelude.{ℕ, zero, suc, ◌+◌, max, ◌≤◌, ◌<◌, ◌≡◌, ◌≢◌, Bool, length, get_or, set, replicate}
use Rattle.std.proofs.Math.Path.{refl}
use Rattle.std.proofs.Common.{◌∙◌, arith}
use Rattle.std.proofs.Math.Bool.{true, false, cond}
use mathlib.Core.List.{List, [], ◌∷◌}
use mathlib.Core.List.Memᴰ.{head as mhere}
use mathlib.Core.List.Memᴰ.{tail as mthere}
use mathlib.Core.List.{Memᴰ as Mem}
use Rattle.std.proofs.Math.Decide.{ℕ_discrete}
use Rattle.std.proofs.Math.ListN.{length-set}
use Rattle.std.proofs.Math.Seq.{get_or-set_same, get_or-set_other}
use Rattle.chains.specs.Graph.{Graph, Dependence}
use Rattle.chains.specs.Maximum.{maximum}
use Rattle.chains.specs.MaximumLaws.{max_of, maximum-of}
use Rattle.chains.specs.Walk.{required, raised, walk, numbers, Below}

pub zeros : (n k : ℕ) → ◌≡◌ {A = ℕ} (get_or (replicate n 0) k 0) 0
zeros zero k = refl
zeros (suc n) zero = refl
zeros (suc n) (suc k) = zeros n k

module _ {R : Type 0} (amount : R → R → ℕ) (g : Graph R) where
  pub required-met : (s : List ℕ) (y x : R) → g.depends x y ≡ true → required amount g s y x ≡ get_or s (g.number x) 0 + amount x y
  unfolding required
  required-met s y x e = rw e

  pub required-none : (s : List ℕ) (y x : R) → g.depends x y ≡ false → required amount g s y x ≡ 0
  unfolding required
  required-none s y x e = rw e

  -- only a reference of an earlier loop requires anything
  pub required-late : (s : List ℕ) (y x : R) → g.number y ≤ g.number x → required amount g s y x ≡ 0
  unfolding required
  required-late s y x l = go (g.depends x y) refl
    where
      go : (b : Bool) → g.depends x y ≡ b → cond b (get_or s (g.number x) 0 + amount x y) 0 ≡ 0
      go true e = let h = g.earlier x y e in absurd (omega arith)
      go false e = refl

module _ {R : Type 0} (amount : R → R → ℕ) (g : Graph R) where
  pub length-raised : (s : List ℕ) (y : R) → length (raised amount g s y) ≡ length s
  unfolding raised
  length-raised s y = simp length-set

  -- of the numbers only that of y's loop changes
  pub raised-other : (s : List ℕ) (y : R) (k : ℕ) → k ≢ g.number y → get_or (raised amount g s y) k 0 ≡ get_or s k 0
  unfolding raised
  raised-other s y k n = get_or-set_other s _ k _ 0 n

  pub raised-same : (s : List ℕ) (y : R) → g.number y < length s
      → get_or (raised amount g s y) (g.number y) 0 ≡ max (get_or s (g.number y) 0) (maximum (required amount g s y) g.references)
  unfolding raised
  raised-same s y h = get_or-set_same s _ _ 0 h

  -- the number of a loop does not count where something is required of that loop
  pub required-own : (s : List ℕ) (k v : ℕ) (y x : R) → g.number y ≡ k → required amount g (set s k v) y x ≡ required amount g s y x
  unfolding required
  required-own s k v y x e = go (g.depends x y) refl
    where
      go : (b : Bool) → g.depends x y ≡ b → cond b (get_or (set s k v) (g.number x) 0 + amount x y) 0 ≡ cond b (get_or s (g.number x) 0 + amount x y) 0
      go true d = let l = g.earlier x y d in rw (get_or-set_other s k (g.number x) v 0 (λ z. omega arith))
      go false d = refl

  walk-length : (ys : List R) (s : List ℕ) → length (walk amount g ys s) ≡ length s
  unfolding walk
  walk-length [] s = refl
  walk-length (y ∷ ys) s = walk-length ys (raised amount g s y) ∙ length-raised s y

  pub numbers-length : length (numbers amount g) ≡ 16
  unfolding numbers
  numbers-length = walk-length g.references (replicate 16 0)

  -- what holds of 0 at every loop, and passes along every dependence, holds of each loop's number
  module _ (P : ℕ → ℕ → Type 0) (start : (k : ℕ) → P k 0)
      (along : (x y : R) → Dependence g x y → (n : ℕ) → P (g.number x) n → P (g.number y) (n + amount x y)) where
    abbrev pub Each : List ℕ → Type 0
    Each s = (k : ℕ) → P k (get_or s k 0)

    required-of : (s : List ℕ) (y x : R) → Mem y g.references → Mem x g.references → Each s → P (g.number y) (required amount g s y x)
    unfolding required
    required-of s y x to from h = go (g.depends x y) refl
      where
        go : (b : Bool) → g.depends x y ≡ b → P (g.number y) (cond b (get_or s (g.number x) 0 + amount x y) 0)
        go true e = along x y (record { from = from; to = to; joined = e }) _ (h (g.number x))
        go false e = start (g.number y)

    pub raised_of : (s : List ℕ) (y : R) → g.number y < length s → Mem y g.references → Each s → Each (raised amount g s y)
    raised_of s y l to h k = go (ℕ_discrete k (g.number y))
      where
        here : P (g.number y) (get_or (raised amount g s y) (g.number y) 0)
        here =
            rw (raised-same s y l)
            (max_of (P (g.number y)) _ _ (h (g.number y))
            (maximum-of (P (g.number y)) (required amount g s y) g.references (start (g.number y)) (λ x from. required-of s y x to from h)))

        go : Dec (k ≡ g.number y) → P k (get_or (raised amount g s y) k 0)
        go (yes q) = rw q here
        go (no q) = rw (raised-other s y k q) (h k)

    pub walk_of : (ys : List R) (s : List ℕ) → Below (length s) g ys → ((y : R) → Mem y ys → Mem y g.references) → Each s → Each (walk amount g ys s)
    unfolding walk
    walk_of [] s b i h = h
    walk_of (y ∷ ys) s b i h =
        walk_of ys (raised amount g s y) (λ z m. rw (length-raised s y) (b z (mthere m))) (λ z m. i z (mthere m))
        (raised_of s y (b y (mhere refl)) (i y (mhere refl)) h)

    pub numbers_of : Below 16 g g.references → Each (numbers amount g)
    unfolding numbers
    numbers_of below = walk_of g.references (replicate 16 0) below (λ y m. m) (λ k. rw (zeros 16 k) (start k))
