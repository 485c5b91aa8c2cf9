-- Dependences that are not met, by computation, from the definitions alone: loops with one reference each, each loop depending on all earlier ones.
use Rattle.std.specs.Prelude.{ℕ, ◌≡◌, refl, true, List, [], ◌∷◌, ltb}
use Rattle.std.proofs.Common.{ltb-true}
use Rattle.model.specs.declared.Reference.{Reference}
use Rattle.chains.specs.Graph.{Graph}
use Rattle.chains.specs.Unmet.{least_from, missed, unmet, least_unmet}

abbrev pub reference : ℕ → ℕ → Reference
reference k o = record { number = k; array = 0; offset = o; stores = true }

abbrev pub all : List Reference → Graph Reference
all rs = record { references = rs; number = λ r. r.number; depends = λ x y. ltb x.number y.number; earlier = λ x y e. ltb-true _ _ e }

-- from loop 0 to loop 1 backward by 2; from loop 0 to loop 2 forward by 1, from loop 1 to loop 2 forward by 3
abbrev pub three : Graph Reference
three = all (reference 0 1 ∷ reference 1 3 ∷ reference 2 0 ∷ [])

-- from loops 0 and 1 to loops 2 and 3 forward by 1
abbrev pub four : Graph Reference
four = all (reference 0 1 ∷ reference 1 1 ∷ reference 2 0 ∷ reference 3 0 ∷ [])

-- the first pair that is not met, 16 times the earlier loop and the later; 256 where all are
unfoldable pub first : Graph Reference → List ℕ → List ℕ → ℕ
unfolding least_unmet unmet least_from
first g s p = least_unmet g (missed g s p)

pub record UnmetKnown : Type 0 where
  -- what is met exactly is met; one shift less, one peel less is not
  pub exactly : first three (0 ∷ 2 ∷ 2 ∷ []) (0 ∷ 0 ∷ 3 ∷ []) ≡ 256
  pub shift-less : first three (0 ∷ 1 ∷ 2 ∷ []) (0 ∷ 0 ∷ 3 ∷ []) ≡ 1
  pub peel-less : first three (0 ∷ 2 ∷ 2 ∷ []) (0 ∷ 0 ∷ 2 ∷ []) ≡ 18
  -- all shifts raised alike are met
  pub raised : first three (7 ∷ 9 ∷ 9 ∷ []) (5 ∷ 5 ∷ 8 ∷ []) ≡ 256
  -- loops that are no neighbours
  pub far : first (all (reference 0 1 ∷ reference 2 0 ∷ [])) (0 ∷ 0 ∷ 0 ∷ []) (0 ∷ 0 ∷ 0 ∷ []) ≡ 2
  -- of several pairs the lowest earlier loop, and with it the lowest later one: 0 and 2 before 1 and 2; 0 and 3 before 1 and 2
  pub lowest : first four (0 ∷ 0 ∷ 0 ∷ 0 ∷ []) (0 ∷ 0 ∷ 0 ∷ 0 ∷ []) ≡ 2
  pub earlier-first : first four (0 ∷ 0 ∷ 0 ∷ 0 ∷ []) (1 ∷ 2 ∷ 2 ∷ 1 ∷ []) ≡ 3

pub unmet-known : UnmetKnown
unfolding first
unmet-known = record { exactly = refl; shift-less = refl; peel-less = refl; raised = refl; far = refl; lowest = refl; earlier-first = refl }
