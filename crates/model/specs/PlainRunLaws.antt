-- Laws of a walk upward to n: what is left of it, from k with s in hand, gives w; after one turn, and at its end.
use Rattle.std.specs.Prelude.{ℕ, suc, ◌-◌, ◌≤◌, ◌<◌, ◌≡◌}
use Rattle.std.proofs.Common.{arith, ap, subst, ◌∙◌}
use Rattle.model.specs.PlainRun.{upward}

-- LAWS: what is left of a walk upward to n, from k with s in hand, gives w: after one turn, and at its end
module _ {S : Type 0} (g : ℕ → S → S) (k n : ℕ) (s w : S) (rest : upward g k (n - k) s ≡ w) where
  pub upward-turn : k < n → (r : S) → r ≡ g k s → upward g (suc k) (n - suc k) r ≡ w
  upward-turn h r f =
      let l : n - k ≡ suc (n - suc k) = omega arith in
      ap (upward g (suc k) (n - suc k)) f ∙ subst (λ (m : ℕ). upward g k m s ≡ w) l rest

  pub upward-ended : n ≤ k → s ≡ w
  upward-ended h = let l : n - k ≡ 0 = omega arith in subst (λ (m : ℕ). upward g k m s ≡ w) l rest
