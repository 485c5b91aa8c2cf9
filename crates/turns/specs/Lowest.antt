-- The lowest number that passes a test.
use Rattle.std.specs.Prelude.{ℕ, zero, suc, ◌≤◌, ◌<◌, ◌≡◌, refl, Bool, true, false}
use Rattle.std.proofs.Common.{arith, sym, ap, ◌∙◌, lt-ltb, le-ltb}
use Rattle.std.proofs.Math.Decide.{ℕ_discrete, dec_lt}
use Rattle.turns.specs.Row.{lowest}

pub lowest-same : (n : ℕ) (f g : ℕ → Bool) → ((b : ℕ) → b < n → f b ≡ g b) → lowest n f ≡ lowest n g
lowest-same zero f g e = refl
lowest-same (suc n) f g e = rw (lowest-same n f g (λ b l. e b (omega arith)), e n (omega arith))

-- it is the b that passes, none below it passing; or n, if none passes
pub lowest-is : (n b : ℕ) (f : ℕ → Bool) → b ≤ n → ((k : ℕ) → k < b → f k ≡ false) → (b < n → f b ≡ true) → lowest n f ≡ b
lowest-is zero b f l none here = omega arith
lowest-is (suc n) b f l none here = go (dec_lt b n) (ℕ_discrete b n) (λ d. lowest-is n d f)
  where
    Before : Type 0
    Before = (d : ℕ) → d ≤ n → ((k : ℕ) → k < d → f k ≡ false) → (d < n → f d ≡ true) → lowest n f ≡ d

    go : Dec (b < n) → Dec (b ≡ n) → Before → lowest (suc n) f ≡ b
    go (yes i) e ih = let q = ih b (omega arith) none (λ z. here (omega arith)) in rw (q, lt-ltb b n i)
    go (no i) (yes e) ih =
        let q : lowest n f ≡ n = ih n (omega arith) (λ k z. none k (omega arith)) (λ z. absurd (omega arith)) in
        let h : f n ≡ true = ap f (sym e) ∙ here (omega arith) in
        rw (q, le-ltb n n (omega arith), h) (sym e)
    go (no i) (no e) ih =
        let q : lowest n f ≡ n = ih n (omega arith) (λ k z. none k (omega arith)) (λ z. absurd (omega arith)) in
        let h : f n ≡ false = none n (omega arith) in
        rw (q, le-ltb n n (omega arith), h) (omega arith)

pub lowest-holds : (n : ℕ) (f : ℕ → Bool) → lowest n f < n → f (lowest n f) ≡ true
lowest-holds zero f l = absurd (omega arith)
lowest-holds (suc n) f l = go (dec_lt (lowest n f) n) (f n) refl (lowest-holds n f)
  where
    go : Dec (lowest n f < n) → (y : Bool) → f n ≡ y → (lowest n f < n → f (lowest n f) ≡ true) → f (lowest (suc n) f) ≡ true
    go (yes i) y e ih = rw (lt-ltb (lowest n f) n i) (ih i)
    go (no i) true e ih = rw (le-ltb (lowest n f) n (omega arith), e) e
    go (no i) false e ih = absurd (let z = rw (le-ltb (lowest n f) n (omega arith), e) at l in omega (arith, z))

pub lowest-none : (n k : ℕ) (f : ℕ → Bool) → n ≤ lowest n f → k < n → f k ≡ false
lowest-none zero k f l h = absurd (omega arith)
lowest-none (suc n) k f l h = go (dec_lt (lowest n f) n) (f n) refl (ℕ_discrete k n) (lowest-none n k f)
  where
    go : Dec (lowest n f < n) → (y : Bool) → f n ≡ y → Dec (k ≡ n) → (n ≤ lowest n f → k < n → f k ≡ false) → f k ≡ false
    go (yes i) y e d ih = absurd (let z = rw (lt-ltb (lowest n f) n i) at l in omega (arith, z))
    go (no i) true e d ih = absurd (let z = rw (le-ltb (lowest n f) n (omega arith), e) at l in omega (arith, z))
    go (no i) false e (yes d) ih = ap f d ∙ e
    go (no i) false e (no d) ih = ih (omega arith) (omega arith)
