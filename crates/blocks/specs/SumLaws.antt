-- Laws of sums, the largest, the least, and whether some passes a test.
use Rattle.std.specs.Prelude.{◌≡◌, refl, Bool, true, false, ◌||◌, ℕ, zero, suc, ◌+◌, ◌≤◌, ◌<◌, min, max}
use Rattle.std.proofs.Common.{sym, ap, subst, add-one, arith}
use Rattle.std.proofs.lemmas.Bool.{false≢true}
use Rattle.std.proofs.Math.Decide.{ℕ_discrete}
use Rattle.blocks.specs.Sums.{total, largest, least, some}

pub total-same : (n : ℕ) (g h : ℕ → ℕ) → ((k : ℕ) → k < n → g k ≡ h k) → total n g ≡ total n h
total-same zero g h e = refl
total-same (suc n) g h e = omega (arith, total-same n g h (λ k l. e k (omega arith)), e n (omega arith))

pub total-zero : (n : ℕ) (h : ℕ → ℕ) → ((k : ℕ) → k < n → h k ≡ 0) → total n h ≡ 0
total-zero zero h e = refl
total-zero (suc n) h e = omega (arith, total-zero n h (λ k l. e k (omega arith)), e n (omega arith))

pub total-add : (n : ℕ) (f g h : ℕ → ℕ) → ((k : ℕ) → k < n → f k ≡ g k + h k) → total n f ≡ total n g + total n h
total-add zero f g h e = refl
total-add (suc n) f g h e = omega (arith, total-add n f g h (λ k l. e k (omega arith)), e n (omega arith))

pub total-up : (m n : ℕ) (h : ℕ → ℕ) → m ≤ n → total m h ≤ total n h
total-up m zero h l = let e : m ≡ 0 = omega arith in omega (arith, ap (λ (k : ℕ). total k h) e)
total-up m (suc n) h l = go (ℕ_discrete m (suc n)) (total-up m n h)
  where
    go : Dec (m ≡ suc n) → (m ≤ n → total m h ≤ total n h) → total m h ≤ total (suc n) h
    go (yes e) ih = omega (arith, ap (λ (k : ℕ). total k h) e)
    go (no e) ih = omega (arith, ih (omega arith))

-- less in one place, and nowhere more
pub total-less : (n b : ℕ) (g h : ℕ → ℕ) → ((k : ℕ) → g k ≤ h k) → b < n → g b < h b → total n g < total n h
total-less zero b g h le l s = absurd (omega arith)
total-less (suc n) b g h le l s = go (ℕ_discrete b n) (total-less n b g h le)
  where
    at_most : (m : ℕ) → total m g ≤ total m h
    at_most zero = omega arith
    at_most (suc m) = omega (arith, at_most m, le m)

    go : Dec (b ≡ n) → (b < n → g b < h b → total n g < total n h) → total (suc n) g < total (suc n) h
    go (yes e) ih = omega (arith, at_most n, subst (λ (k : ℕ). g k < h k) e s)
    go (no e) ih = omega (arith, ih (omega arith) s, le n)

pub total-next : (k : ℕ) (h : ℕ → ℕ) (sum x : ℕ) → sum ≡ total k h → x ≡ h k → sum + x ≡ total (k + 1) h
total-next k h sum x e q = rw add-one (omega arith)

pub largest-same : (n : ℕ) (g h : ℕ → ℕ) → ((k : ℕ) → k < n → g k ≡ h k) → largest n g ≡ largest n h
largest-same zero g h e = refl
largest-same (suc n) g h e = omega (arith, largest-same n g h (λ k l. e k (omega arith)), e n (omega arith))

pub largest-bound : (n k : ℕ) (h : ℕ → ℕ) → k < n → h k ≤ largest n h
largest-bound zero k h l = absurd (omega arith)
largest-bound (suc n) k h l = go (ℕ_discrete k n) (largest-bound n k h)
  where
    go : Dec (k ≡ n) → (k < n → h k ≤ largest n h) → h k ≤ largest (suc n) h
    go (yes e) ih = omega (arith, ap h e)
    go (no e) ih = omega (arith, ih (omega arith))

pub largest-most : (n : ℕ) (h : ℕ → ℕ) (most : ℕ) → ((k : ℕ) → k < n → h k ≤ most) → largest n h ≤ most
largest-most zero h most e = omega arith
largest-most (suc n) h most e = omega (arith, largest-most n h most (λ k l. e k (omega arith)), e n (omega arith))

pub largest-next : (k : ℕ) (h : ℕ → ℕ) (most x : ℕ) → most ≡ largest k h → x ≡ h k → max most x ≡ largest (k + 1) h
largest-next k h most x e q = rw add-one (omega arith)

pub least-same : (n : ℕ) (g h : ℕ → ℕ) → 0 < n → ((k : ℕ) → k < n → g k ≡ h k) → least n g ≡ least n h
least-same zero g h l e = absurd (omega arith)
least-same (suc zero) g h l e = omega (arith, e 0 (omega arith))
least-same (suc (suc n)) g h l e =
    omega (arith, least-same (suc n) g h (omega arith) (λ k l. e k (omega arith)), e (suc n) (omega arith))

pub least-bound : (n k : ℕ) (h : ℕ → ℕ) → k < n → least n h ≤ h k
least-bound zero k h l = absurd (omega arith)
least-bound (suc n) k h l = go (ℕ_discrete k n) (least-bound n k h)
  where
    go : Dec (k ≡ n) → (k < n → least n h ≤ h k) → least (suc n) h ≤ h k
    go (yes e) ih = omega (arith, ap h e)
    go (no e) ih = omega (arith, ih (omega arith))

pub least-next : (k : ℕ) (h : ℕ → ℕ) (low x : ℕ) → low ≡ least k h → x ≡ h k → min low x ≡ least (k + 1) h
least-next k h low x e q = rw add-one (omega arith)

-- of two, where not either passes
pub neither : (a b : Bool) → (a || b) ≡ false → (a ≡ false) × (b ≡ false)
neither true b e = absurd (false≢true (sym e))
neither false b e = (refl, e)

pub some-here : (n b : ℕ) (f : ℕ → Bool) → b < n → f b ≡ true → some n f ≡ true
some-here zero b f l e = absurd (omega arith)
some-here (suc n) b f l e = go (ℕ_discrete b n) (some n f) (f n) refl (λ i. some-here n b f i e)
  where
    go : Dec (b ≡ n) → (x y : Bool) → f n ≡ y → (b < n → x ≡ true) → (x || y) ≡ true
    go d true y q ih = refl
    go (yes d) false y q ih = cc (ap f d)
    go (no d) false y q ih = absurd (false≢true (ih (omega arith)))

pub some-none : (n : ℕ) (f : ℕ → Bool) → ((b : ℕ) → b < n → f b ≡ false) → some n f ≡ false
some-none zero f h = refl
some-none (suc n) f h = rw (some-none n f (λ b l. h b (omega arith)), h n (omega arith))

pub some-which : (n : ℕ) (f : ℕ → Bool) → some n f ≡ true → (b : ℕ) × (b < n) × (f b ≡ true)
some-which zero f e = absurd (false≢true e)
some-which (suc n) f e = go (some n f) (f n) refl refl e (some-which n f)
  where
    go : (x y : Bool) → some n f ≡ x → f n ≡ y → (x || y) ≡ true → (some n f ≡ true → (b : ℕ) × (b < n) × (f b ≡ true))
        → (b : ℕ) × (b < suc n) × (f b ≡ true)
    go true y p q r ih = let (b, l, h) = ih p in (b, omega arith, h)
    go false true p q r ih = (n, omega arith, q)
    go false false p q r ih = absurd (false≢true r)

pub some-each : (n b : ℕ) (f : ℕ → Bool) → some n f ≡ false → b < n → f b ≡ false
some-each n b f e l = go (f b) refl
  where
    go : (x : Bool) → f b ≡ x → f b ≡ false
    go true q = absurd (false≢true (let z : false ≡ true = cc (some-here n b f l q) in z))
    go false q = q

pub some_same : (n : ℕ) (f g : ℕ → Bool) → ((b : ℕ) → b < n → f b ≡ g b) → some n f ≡ some n g
some_same zero f g e = refl
some_same (suc n) f g e = rw (some_same n f g (λ b l. e b (omega arith)), e n (omega arith))
