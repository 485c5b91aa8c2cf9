-- Records in bytes, each by its kind and fields; numbers with the least byte first.
use Rattle.std.specs.Prelude.{ℕ, zero, suc, ◌-◌, ◌/◌, ◌%◌, List, [], ◌∷◌, ◌++◌}

-- a number in four bytes
abbrev pub number : ℕ → List ℕ
number n = n % 256 ∷ n / 256 % 256 ∷ n / 65536 % 256 ∷ n / 16777216 % 256 ∷ []

-- an array of n elements
abbrev pub array : ℕ → List ℕ
array n = 1 ∷ number n

-- the offsets o and −o, and −1
abbrev pub ahead : ℕ → List ℕ
ahead o = o % 256 ∷ o / 256 ∷ []

abbrev pub behind : ℕ → List ℕ
behind o = ahead (65536 - o)

abbrev pub back : List ℕ
back = behind 1

-- a loop that stores at an offset in array a; and one from 1 to 10 that stores at A[i]
abbrev pub loop : ℕ → ℕ → ℕ → List ℕ → List ℕ
loop first last a offset = 2 ∷ number first ++ number last ++ a ∷ offset

abbrev pub store : ℕ → List ℕ
store a = loop 1 10 a (ahead 0)

-- a further statement of a loop, which stores at an offset in array a
abbrev pub statement : ℕ → List ℕ → List ℕ
statement a offset = 7 ∷ a ∷ offset

abbrev pub read : ℕ → List ℕ → List ℕ
read a offset = 3 ∷ a ∷ offset

-- a constant, and the constant 1
abbrev pub constant : ℕ → List ℕ
constant n = 4 ∷ number n

abbrev pub one : List ℕ
one = constant 1

-- 1 add, 5 negate
abbrev pub operation : ℕ → List ℕ
operation o = 5 ∷ o ∷ []

abbrev pub add : List ℕ
add = operation 1

abbrev pub end : List ℕ
end = 6 ∷ []

-- the same bytes n times
abbrev pub times : ℕ → List ℕ → List ℕ
times zero s = []
times (suc n) s = s ++ times n s
