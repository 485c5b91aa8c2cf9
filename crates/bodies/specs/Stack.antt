-- The numbers that wait in a body, the latest first.
use Rattle.std.specs.Prelude.{ℕ, zero, suc, ◌≡◌, List, [], ◌∷◌, length, get_or, Float}
use Rattle.std.specs.Float.{nan}
use Rattle.bodies.specs.declared.Waiting.{Waiting}

-- the first n of the values, the last of them first
unfoldable pub tops : List Float → ℕ → List Float
tops vs zero = []
tops vs (suc n) = get_or vs n nan ∷ tops vs n

abbrev pub waiting : Waiting → List Float
waiting w = tops w.values w.count

-- the array has eight places, its first n hold the waiting numbers w, and n is d
abbrev pub Holds : List Float → ℕ → List Float → ℕ → Type 0
Holds vs n w d = (length vs ≡ 8) × (tops vs n ≡ w) × (n ≡ d)
