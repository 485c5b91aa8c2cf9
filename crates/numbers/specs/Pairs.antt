-- Pairs of numbers written one after the other, from a place on.
use Rattle.std.specs.Prelude.{ℕ, zero, suc, ◌+◌, ◌*◌, ◌≤◌, ◌<◌, ◌≡◌, refl, List, [], ◌∷◌, ◌++◌, length}
use Rattle.std.proofs.Common.{arith, add-one, sym, ap, subst, ◌∙◌, append-nil, length-append}
use Rattle.order.specs.Sequences.{joined}
use Rattle.text.specs.declared.Writer.{Writer}
use Rattle.text.specs.Puts.{Puts, puts-none, puts_then, puts-most, puts-past}
use Rattle.numbers.specs.Numbers.{four, encoded}
use Rattle.numbers.specs.NumberLaws.{encoded-length, encoded-append}

-- pairs of numbers, as one row
pub pairs : (n : ℕ) (x y : ℕ → ℕ) → joined n (λ k. four (x k) ++ four (y k)) ≡ encoded (joined n (λ k. x k ∷ y k ∷ []))
unfolding encoded
pairs zero x y = refl
pairs (suc n) x y =
    ap (λ (l : List ℕ). l ++ (four (x n) ++ four (y n))) (pairs n x y)
    ∙ ap (λ (l : List ℕ). encoded (joined n (λ k. x k ∷ y k ∷ [])) ++ (four (x n) ++ l)) (sym (append-nil (four (y n))))
    ∙ sym (encoded-append (joined n (λ k. x k ∷ y k ∷ [])) (x n ∷ y n ∷ []))

pub pairs-length : (n : ℕ) (x y : ℕ → ℕ) → length (encoded (joined n (λ k. x k ∷ y k ∷ []))) ≡ 8 * n
pairs-length n x y = encoded-length (joined n (λ k. x k ∷ y k ∷ [])) ∙ go n
  where
    go : (n : ℕ) → 4 * length (joined n (λ k. x k ∷ y k ∷ [])) ≡ 8 * n
    go zero = refl
    go (suc n) = omega (arith, go n, length-append (joined n (λ k. x k ∷ y k ∷ [])) (x n ∷ y n ∷ []))

-- the first k of n pairs are written
pub record Rowed (x y : ℕ → ℕ) (n : ℕ) (old : Writer) (k : ℕ) (new : Writer) : Type 0 where
  pub puts : Puts old (joined k (λ j. four (x j) ++ four (y j))) (8 * k) new
  pub within : k ≤ n

module _ {x y : ℕ → ℕ} {n : ℕ} {old : Writer} where
  pub rowed-none : Rowed x y n old 0 old
  rowed-none = record { puts = puts-none old; within = omega arith }

  pub rowed-next : {k : ℕ} {mid new : Writer} → Rowed x y n old k mid → k < n → Puts mid (four (x k) ++ four (y k)) 8 new → Rowed x y n old (k + 1) new
  rowed-next {k} r l p = record { puts = rw (add-one k) (puts-most (8 * suc k) (omega arith) (puts_then r.puts p)); within = omega arith }

  pub rowed-at : {k : ℕ} {new : Writer} → Rowed x y n old k new → new.at ≤ old.at + 8 * k
  rowed-at r = puts-past r.puts

  pub rowed-end : {k : ℕ} {new : Writer} → Rowed x y n old k new → n ≤ k → Puts old (encoded (joined n (λ j. x j ∷ y j ∷ []))) (8 * n) new
  rowed-end {k} {new} r l =
      let e : k ≡ n = omega (arith, r.within) in
      let p = subst (λ (m : ℕ). Puts old (joined m (λ j. four (x j) ++ four (y j))) (8 * m) new) e r.puts in
      subst (λ (w : List ℕ). Puts old w (8 * n) new) (pairs n x y) p
