-- Where two loops meet, for one index. Offsets are kept with 255 added: the distance is d = o − o', and j is i + d where i + o = j + o'.
use Rattle.std.specs.Prelude.{ℕ, zero, suc, ◌+◌, ◌-◌, min, max, Bool, false, ◌&&◌, ◌||◌, leb}

-- p holds of some of the n numbers from f on
unfoldable pub some_from : (ℕ → Bool) → ℕ → ℕ → Bool
some_from p f zero = false
some_from p f (suc n) = p f || some_from p (suc f) n

-- i + d lies in a loop's bounds f' to l'
abbrev pub is_inside : (f' l' o' i o : ℕ) → Bool
is_inside f' l' o' i o = leb (f' + o') (i + o) && leb (i + o) (l' + o')

-- some iteration i of a loop from f to l, and i + d of a loop from f' to l', both lie in their loops' bounds
unfoldable pub meeting : (f l o f' l' o' : ℕ) → Bool
unfolding some_from
meeting f l o f' l' o' = some_from (λ i. is_inside f' l' o' i o) f (suc l - f)

-- the test of it: the greater of f and f' − d is at most the lesser of l and l' − d
unfoldable pub overlap : (f l o f' l' o' : ℕ) → Bool
overlap f l o f' l' o' = leb (max (f + o) (f' + o')) (min (l + o) (l' + o'))
