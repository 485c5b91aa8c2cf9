-- Laws of the largest of several numbers.
use Rattle.std.specs.Prelude.{ℕ, zero, suc, ◌+◌, max, ◌≤◌, ◌<◌, ◌≡◌, refl, List, [], ◌∷◌}
use mathlib.Core.List.Memᴰ.{head as mhere}
use mathlib.Core.List.Memᴰ.{tail as mthere}
use mathlib.Core.List.{Memᴰ as Mem}
use Rattle.std.proofs.Math.Nat.{le-max_left, le-max_right, max-eq_left, max-eq_right}
use Rattle.std.proofs.Common.{le_trans, add-one, arith}
use Rattle.std.proofs.Math.Decide.{ℕ_discrete, dec_le}
use Rattle.chains.specs.Maximum.{maximum, maximum_below}

pub max-right : (a b c : ℕ) → max (max a b) c ≡ max a (max b c)
max-right a b c = omega arith

-- what holds of two numbers holds of the larger
pub max_of : (P : ℕ → Type 0) (a b : ℕ) → P a → P b → P (max a b)
max_of P a b p q = go (dec_le a b)
  where
    go : Dec (a ≤ b) → P (max a b)
    go (yes h) = rw (max-eq_right h) q
    go (no h) = let l : b ≤ a = omega arith in rw (max-eq_left l) p

-- what holds of 0 and of each holds of the largest
pub maximum-of : {A : Type 0} (P : ℕ → Type 0) (f : A → ℕ) (xs : List A) → P 0 → ((x : A) → Mem x xs → P (f x)) → P (maximum f xs)
unfolding maximum
maximum-of P f [] z h = z
maximum-of P f (x ∷ xs) z h = max_of P (f x) (maximum f xs) (h x (mhere refl)) (maximum-of P f xs z (λ y m. h y (mthere m)))

pub maximum_below-of : (P : ℕ → Type 0) (f : ℕ → ℕ) (n : ℕ) → P 0 → ((k : ℕ) → k < n → P (f k)) → P (maximum_below n f)
unfolding maximum_below
maximum_below-of P f zero z h = z
maximum_below-of P f (suc n) z h = max_of P (maximum_below n f) (f n) (maximum_below-of P f n z (λ k l. h k (omega arith))) (h n (omega arith))

-- of what is the same at each
pub maximum-same : {A : Type 0} (f g : A → ℕ) (xs : List A) → ((x : A) → Mem x xs → f x ≡ g x) → maximum f xs ≡ maximum g xs
unfolding maximum
maximum-same f g [] e = refl
maximum-same f g (x ∷ xs) e = rw (e x (mhere refl), maximum-same f g xs (λ y m. e y (mthere m)))

-- none is larger
pub maximum-upper : {A : Type 0} (f : A → ℕ) {x : A} {xs : List A} → Mem x xs → f x ≤ maximum f xs
unfolding maximum
maximum-upper f (mhere {x = z} {xs = l} e) = rw e (le-max_left (f z) (maximum f l))
maximum-upper f (mthere {x = z} {xs = l} m) = le_trans (maximum-upper f m) (le-max_right (f z) (maximum f l))

pub maximum_below-upper : (f : ℕ → ℕ) (n k : ℕ) → k < n → f k ≤ maximum_below n f
unfolding maximum_below
maximum_below-upper f zero k l = absurd (omega arith)
maximum_below-upper f (suc n) k l = go (ℕ_discrete k n) (maximum_below-upper f n k)
  where
    go : Dec (k ≡ n) → (k < n → f k ≤ maximum_below n f) → f k ≤ max (maximum_below n f) (f n)
    go (yes e) h = rw e (le-max_right _ _)
    go (no e) h = le_trans (h (omega arith)) (le-max_left _ _)

-- the next one
pub maximum_below-next : (f : ℕ → ℕ) (k t u : ℕ) → t ≡ maximum_below k f → u ≡ max t (f k) → u ≡ maximum_below (k + 1) f
unfolding maximum_below
maximum_below-next f k t u e q = rw (q, e, add-one) refl
