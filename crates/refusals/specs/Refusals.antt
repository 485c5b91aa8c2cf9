-- A refusal: the number of its ground, its place, and what it names, two numbers. Of 9 the place is a loop, and a read of
-- it is named; of 20 the place is a loop, and a later loop is named. No other ground names anything.
use Rattle.std.specs.Prelude.{ℕ}
use Rattle.refusals.specs.declared.Ground.{Ground}
use Rattle.refusals.specs.declared.Ground.TheVariants as of
use Rattle.refusals.specs.declared.Refusal.{Refusal}

-- the number of each ground
abbrev pub number_of : Ground → ℕ
number_of of.Torn = 1
number_of of.Kind = 2
number_of of.Field = 3
number_of of.Crowd = 4
number_of of.Array = 5
number_of of.Body = 6
number_of of.Edge = 7
number_of of.Tail = 8
number_of of.Serial = 9
number_of of.Processors = 10
number_of of.Short = 11
number_of of.Memory = 12
number_of of.Buffer = 13
number_of of.Unlike = 14
number_of of.State = 15
number_of of.Line = 17
number_of of.Plan = 19
number_of of.Unmet = 20

-- two numbers are named
abbrev pub naming : (ground : ℕ) → ℕ → ℕ → ℕ → Refusal
naming number place first second = record { ground = number; place = place; first = first; second = second }

-- nothing is named
abbrev pub met : ℕ → ℕ → Refusal
met number place = naming number place 0 0

-- what is told where nothing is refused
abbrev pub none : Refusal
none = met 0 0
