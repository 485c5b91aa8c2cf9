-- Laws of chains: the largest total is one number; some chain ends at a loop, or none does.
use Rattle.std.specs.Prelude.{ℕ, ◌≤◌, ◌≡◌, refl, ◌⊎◌, true, List, [], ◌∷◌}
use Rattle.std.proofs.Common.{inl, inr, ⊎_elim, le_antisymm, arith}
use Rattle.std.proofs.Math.Bool.{Bool-discrete}
use mathlib.Core.List.Memᴰ.{head as mhere}
use mathlib.Core.List.Memᴰ.{not-nil}
use mathlib.Core.List.Memᴰ.{tail as mthere}
use mathlib.Core.List.{Memᴰ as Mem}
use Rattle.std.proofs.Math.Decide.{ℕ_discrete}
use Rattle.chains.specs.Graph.{Graph, Dependence}
use Rattle.chains.specs.Chains.{Chain, chain_total, Largest, one, more}

-- that is one number
pub largest-unique : {R : Type 0} (amount : R → R → ℕ) (g : Graph R) (k m n : ℕ) → Largest amount g k m → Largest amount g k n → m ≡ n
largest-unique amount g k m n a b = le_antisymm (half m n a b) (half n m b a)
  where
    half : (m n : ℕ) → Largest amount g k m → Largest amount g k n → m ≤ n
    half m n a b = ⊎_elim (λ t. omega (arith, b.bound t.0)) (λ t. omega arith) a.attained

-- where each member has the one or the other, some member has the one, or all have the other
some-or-all : {A : Type 0} {Q R : A → Type 0} → ((x : A) → Q x ⊎ R x) → (l : List A) → ((x : A) × Mem x l × Q x) ⊎ ((x : A) → Mem x l → R x)
some-or-all f [] = inr (λ x m. absurd (not-nil m))
some-or-all {A} {Q} {R} f (y ∷ l) = go (f y) (some-or-all f l)
  where
    go : Q y ⊎ R y → ((x : A) × Mem x l × Q x) ⊎ ((x : A) → Mem x l → R x) → ((x : A) × Mem x (y ∷ l) × Q x) ⊎ ((x : A) → Mem x (y ∷ l) → R x)
    go (inl q) r = inl (y, mhere refl, q)
    go (inr q) (inl (x, m, p)) = inl (x, mthere m, p)
    go (inr q) (inr r) = inr λ x. elim [ mhere e ↦ rw e q | mthere m ↦ r x m ]

pub last-dependence : {R : Type 0} {g : Graph R} {k : ℕ} → Chain g k → (x : R) × (y : R) × Dependence g x y × (g.number y ≡ k)
last-dependence (one {x} {y} d) = (x, y, d, refl)
last-dependence (more {x} {y} c d) = (x, y, d, refl)

module _ {R : Type 0} (g : Graph R) (k : ℕ) where
  -- a dependence ends at loop k with the reference y, and none does
  abbrev Ends : R → Type 0
  Ends y = (g.number y ≡ k) × ((x : R) × Mem x g.references × (g.depends x y ≡ true))

  abbrev Free : R → Type 0
  Free y = g.number y ≡ k → (x : R) → Mem x g.references → g.depends x y ≡ true → ⊥

  ends-or-free : (y : R) → Ends y ⊎ Free y
  ends-or-free y = go (ℕ_discrete (g.number y) k) (some-or-all joins g.references)
    where
      joins : (x : R) → (g.depends x y ≡ true) ⊎ (g.depends x y ≡ true → ⊥)
      joins x = elim (Bool-discrete (g.depends x y) true) [ yes e ↦ inl e | no e ↦ inr e ]

      go : Dec (g.number y ≡ k) → ((x : R) × Mem x g.references × (g.depends x y ≡ true)) ⊎ ((x : R) → Mem x g.references → g.depends x y ≡ true → ⊥)
          → Ends y ⊎ Free y
      go (yes e) (inl d) = inl (e, d)
      go (yes e) (inr f) = inr (λ e. f)
      go (no n) d = inr (λ e. absurd (n e))

  -- some chain ends at loop k, or none does
  pub chain-or-none : Chain g k ⊎ (Chain g k → ⊥)
  chain-or-none = ⊎_elim some none (some-or-all ends-or-free g.references)
    where
      some : (y : R) × Mem y g.references × Ends y → Chain g k ⊎ (Chain g k → ⊥)
      some (y, to, (e, (x, from, joined))) = inl (rw (← e) (one (record { from = from; to = to; joined = joined })))

      none : ((y : R) → Mem y g.references → Free y) → Chain g k ⊎ (Chain g k → ⊥)
      none free = inr λ c. let (x, y, d, e) = last-dependence c in free y d.to e x d.from d.joined

  -- what no chain's total exceeds, and is 0 or some chain's total, is the largest
  pub largest-of : (amount : R → R → ℕ) (n : ℕ) → ((c : Chain g k) → chain_total amount c ≤ n)
      → (n ≡ 0) ⊎ ((c : Chain g k) × (chain_total amount c ≡ n)) → Largest amount g k n
  largest-of amount n bound reached = record { bound = bound; attained = ⊎_elim none inl reached }
    where
      none : n ≡ 0 → ((c : Chain g k) × (chain_total amount c ≡ n)) ⊎ ((Chain g k → ⊥) × (n ≡ 0))
      none e = ⊎_elim (λ c. inl (c, omega (arith, bound c))) (λ f. inr (f, e)) chain-or-none
