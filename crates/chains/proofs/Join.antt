-- References of later loops change no number of an earlier one: where they are added to a graph, the earlier loops keep their numbers.
use Rattle.std.specs.Prelude.{ℕ, ◌+◌, ◌≤◌, ◌<◌, ◌≡◌, refl, Bool, true, List, ◌++◌, get_or}
use Rattle.std.proofs.Common.{sym, ap, ◌∙◌, inl, inr, ⊎_elim, arith}
use mathlib.Core.List.Memᴰ
use mathlib.Core.List.{Memᴰ as Mem}
use Rattle.chains.specs.Graph.{Graph, Dependence}
use Rattle.chains.specs.Chains.{Chain, one, more, chain_total, Largest}
use Rattle.chains.specs.ChainLaws.{largest-unique}
use Rattle.chains.specs.Walk.{numbers, Ordered, Below}
use Rattle.chains.proofs.Largest.{numbers-largest}

-- the references ts come after those of g; which of them all make a dependence says `depends`, and of those of g it says what g says
module _ {R : Type 0} (amount : R → R → ℕ) (g : Graph R) (ts : List R) (depends : R → R → Bool)
    (earlier : (x y : R) → depends x y ≡ true → g.number x < g.number y)
    (same : (x y : R) → Mem x g.references → Mem y g.references → depends x y ≡ g.depends x y) where
  abbrev pub joined : Graph R
  joined = record { references = g.references ++ ts; number = g.number; depends = depends; earlier = earlier }

  wide : {x y : R} → Dependence g x y → Dependence joined x y
  wide {x} {y} e = record {
    from = Memᴰ.append_left ts e.from;
    to = Memᴰ.append_left ts e.to;
    joined = same x y e.from e.to ∙ e.joined;
  }

  -- a chain of g is one of the joined graph
  widened : {k : ℕ} (c : Chain g k) → (d : Chain joined k) × (chain_total amount d ≡ chain_total amount c)
  widened (one {x} {y} e) = (one (wide e), refl)
  widened (more {x} {y} c e) = let w = widened c in (more w.0 (wide e), ap (λ (t : ℕ). t + amount x y) w.1)

  -- ts stands in the loops from n on
  module _ (n : ℕ) (late : (x : R) → Mem x ts → n ≤ g.number x) where
    low : (x : R) → g.number x < n → Mem x (g.references ++ ts) → Mem x g.references
    low x h m = ⊎_elim (λ i. i) (λ i. let f = late x i in absurd (omega arith)) (Memᴰ.append_cases g.references m)

    narrow : {x y : R} → g.number y < n → Dependence joined x y → Dependence g x y
    narrow {x} {y} h e =
        let l = earlier x y e.joined in
        let from = low x (omega arith) e.from in
        let to = low y h e.to in
        record { from = from; to = to; joined = sym (same x y from to) ∙ e.joined }

    -- and one of the joined graph that ends before loop n is one of g
    narrowed : {k : ℕ} → k < n → (c : Chain joined k) → (d : Chain g k) × (chain_total amount d ≡ chain_total amount c)
    narrowed h (one {x} {y} e) = (one (narrow h e), refl)
    narrowed h (more {x} {y} c e) =
        let l = earlier x y e.joined in
        let w = narrowed (omega arith) c in
        (more w.0 (narrow h e), ap (λ (t : ℕ). t + amount x y) w.1)

    pub joined_numbers : Ordered g g.references → Below 16 g g.references → Ordered joined joined.references → Below 16 joined joined.references
        → (k : ℕ) → k < n → get_or (numbers amount joined) k 0 ≡ get_or (numbers amount g) k 0
    joined_numbers o b o' b' k h = largest-unique amount g k _ _ same-largest (numbers-largest amount g o b k)
      where
        whole : Largest amount joined k (get_or (numbers amount joined) k 0)
        whole = numbers-largest amount joined o' b' k

        same-largest : Largest amount g k (get_or (numbers amount joined) k 0)
        same-largest = record {
          bound = λ c. let w = widened c in omega (arith, whole.bound w.0, w.1);
          attained = ⊎_elim (λ t. let w = narrowed h t.0 in inl (w.0, w.1 ∙ t.1)) (λ t. inr (λ c. t.0 (widened c).0, t.1)) whole.attained;
        }
