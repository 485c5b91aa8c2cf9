-- A number's digits: all but the last are those of a tenth of it, and there are few. Laws alone.
use Rattle.std.specs.Prelude.{◌≡◌, refl, [], ◌∷◌, ◌++◌, ℕ, zero, suc, ◌/◌, ◌^◌, ◌≤◌, ◌<◌, length}
use Rattle.std.proofs.Math.Decide.{dec_lt}
use Rattle.std.proofs.Common.{pow-suc, arith, length-append, lt-ltb, le-ltb}
use Rattle.text.specs.Ascii.{ascii}
use Rattle.text.specs.Decimal.{last_digit, digits, decimal}

digits-small : (n x : ℕ) → x < 10 → digits (suc n) x ≡ last_digit x ∷ []
unfolding digits
digits-small n x l = rw (lt-ltb x 10 l)

digits_more : (n x : ℕ) → 10 ≤ x → digits (suc n) x ≡ digits n (x / 10) ++ (last_digit x ∷ [])
unfolding digits
digits_more n x l = rw (le-ltb x 10 l)

-- a larger bound changes nothing
digits_same : (m n x : ℕ) → x < m → x < n → digits m x ≡ digits n x
digits_same zero n x h l = absurd (omega arith)
digits_same (suc m) zero x h l = absurd (omega arith)
digits_same (suc m) (suc n) x h l = go (dec_lt x 10) (digits_same m n (x / 10))
  where
    go : Dec (x < 10) → (x / 10 < m → x / 10 < n → digits m (x / 10) ≡ digits n (x / 10)) → digits (suc m) x ≡ digits (suc n) x
    go (yes s) ih = rw (digits-small m x s, digits-small n x s)
    go (no s) ih = rw (digits_more m x (omega arith), digits_more n x (omega arith), ih (omega arith) (omega arith))

pub decimal-small : (x : ℕ) → x < 10 → decimal x ≡ last_digit x ∷ []
unfolding decimal
decimal-small x l = digits-small x x l

pub decimal-more : (x : ℕ) → 10 ≤ x → decimal x ≡ decimal (x / 10) ++ (last_digit x ∷ [])
unfolding decimal
decimal-more x l = rw (digits_more x x l, digits_same x (suc (x / 10)) (x / 10) (omega arith) (omega arith))

-- a number below 10 ^ n has at most n digits, 0 aside
pub length-decimal : (n x : ℕ) → x < 10 ^ suc n → length (decimal x) ≤ suc n
length-decimal zero x h = rw (decimal-small x (omega arith)) (omega arith)
length-decimal (suc n) x h = go (dec_lt x 10) (length-decimal n (x / 10))
  where
    go : Dec (x < 10) → (x / 10 < 10 ^ suc n → length (decimal (x / 10)) ≤ suc n) → length (decimal x) ≤ suc (suc n)
    go (yes s) ih = rw (decimal-small x s) (omega arith)
    go (no s) ih = rw (decimal-more x (omega arith), length-append) (omega (arith, ih (omega (arith, pow-suc 10 (suc n)))))

-- known results
pub nought : decimal 0 ≡ ascii "0"
unfolding decimal digits
nought = refl

pub zeros : decimal 65790 ≡ ascii "65790"
unfolding decimal digits
zeros = refl

pub hundred : decimal 100 ≡ ascii "100"
unfolding decimal digits
hundred = refl
