-- Dependences that given shifts and peels do not meet, and the first pair of loops with such a dependence. Assumes nothing.
use Rattle.std.specs.Prelude.{ℕ, zero, suc, ◌+◌, ◌/◌, ◌%◌, ◌<◌, ◌≡◌, Bool, true, false, cond, ◌&&◌, ◌||◌, List, [], ◌∷◌, eqb, ltb, get_or}
use Rattle.model.specs.declared.Reference.{Reference}
use Rattle.chains.specs.Graph.{Graph, Dependence}
use Rattle.chains.specs.Dependence.{backward, forward}

-- whether some of a list passes a test
abbrev pub some_of : {A : Type 0} → (A → Bool) → List A → Bool
some_of f [] = false
some_of f (x ∷ xs) = f x || some_of f xs

-- the least of the n numbers from k on that passes a test, and k + n where none does
unfoldable pub least_from : ℕ → ℕ → (ℕ → Bool) → ℕ
least_from zero k f = k
least_from (suc n) k f = cond (f k) k (least_from n (suc k) f)

-- where x, of the earlier loop, and y make a dependence, the shifts s and peels p do not meet it: the later loop's shift is below the earlier's
-- plus the backward amount, or its peel below the earlier's plus the forward amount
abbrev pub missed : Graph Reference → List ℕ → List ℕ → Reference → Reference → Bool
missed g s p x y =
    let j = g.number x in
    let k = g.number y in
    ltb (get_or s k 0) (get_or s j 0 + backward x y) || ltb (get_or p k 0) (get_or p j 0 + forward x y)

-- of any graph, and whatever it is not to meet a dependence
module _ {R : Type 0} (g : Graph R) (miss : R → R → Bool) where
  -- x and y make a dependence, which is not met
  abbrev pub lacks : R → R → Bool
  lacks x y = g.depends x y && miss x y

  -- some dependence from loop j to loop k is not met
  unfoldable pub unmet : ℕ → ℕ → Bool
  unmet j k = some_of (λ x. some_of (λ y. (eqb (g.number x) j && eqb (g.number y) k) && lacks x y) g.references) g.references

  -- the first such pair of loops, by the earlier loop and then by the later, as 16 times the earlier and the later; 256 where there is none
  unfoldable pub least_unmet : ℕ
  unfolding least_from unmet
  least_unmet = least_from 256 0 (λ n. unmet (n / 16) (n % 16))

  -- as statements: some dependence from loop j to loop k is not met
  pub record Unmet (j k : ℕ) : Type 0 where
    pub x : R
    pub y : R
    pub dependence : Dependence g x y
    pub from : g.number x ≡ j
    pub to : g.number y ≡ k
    pub missed-is : miss x y ≡ true

  -- and j, k is the first such pair: j the lowest earlier loop, and with it k the lowest later one
  pub record FirstUnmet (j k : ℕ) : Type 0 where
    pub here : Unmet j k
    pub lowest-earlier : (i m : ℕ) → i < j → Unmet i m → ⊥
    pub lowest-later : (m : ℕ) → m < k → Unmet j m → ⊥
