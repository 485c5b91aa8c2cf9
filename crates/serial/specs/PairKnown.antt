-- The test of a pair of references, and the first pair of several that collides, by computation: of a loop from 0 to 1.
use Rattle.std.specs.Prelude.{ℕ, ◌+◌, ◌≡◌, refl, true, false, List, [], ◌∷◌}
use Rattle.overlap.specs.Overlap.{overlap}
use Rattle.model.specs.declared.Reference.{Reference}
use Rattle.model.specs.References.{touch}
use Rattle.std.specs.Prelude.{None}
use Rattle.serial.specs.Serial.{pair, collides, hit, pair_hit}

-- array a at i + o, stored and read
abbrev stored : ℕ → ℕ → Reference
stored a o = record { number = 0; array = a; offset = 255 + o; stores = true }

abbrev read : ℕ → ℕ → Reference
read a o = record { number = 0; array = a; offset = 255 + o; stores = false }

-- A0[i] = A1[i+1]; A1[i] = A0[i+1]
abbrev crossed : List Reference
crossed = stored 0 0 ∷ read 1 1 ∷ stored 1 0 ∷ read 0 1 ∷ []

-- A0[i] = A1[i] + A0[i+1] + A0[i+1]
abbrev twice : List Reference
twice = stored 0 0 ∷ read 1 0 ∷ read 0 1 ∷ read 0 1 ∷ []

pub record PairKnown : Type 0 where
  -- two destinations, a destination and a read either way round; not two reads, one offset, another array, two apart
  pub destinations : collides 0 1 (stored 0 0) (stored 0 1) ≡ true
  pub then-read : collides 0 1 (stored 0 0) (read 0 1) ≡ true
  pub read-then : collides 0 1 (read 0 1) (stored 0 0) ≡ true
  pub reads : collides 0 1 (read 0 0) (read 0 1) ≡ false
  pub one-offset : collides 0 1 (stored 0 1) (stored 0 1) ≡ false
  pub other-array : collides 0 1 (stored 0 0) (stored 1 1) ≡ false
  pub two-apart : collides 0 1 (stored 0 0) (stored 0 2) ≡ false
  -- the least lower number, then the least higher one; none
  pub least-lower : pair_hit 0 1 crossed 0 ≡ pair 0 3
  pub least-higher : pair_hit 0 1 twice 0 ≡ pair 0 2
  pub none : pair_hit 0 1 (stored 0 0 ∷ read 1 0 ∷ read 1 1 ∷ read 0 2 ∷ []) 0 ≡ None

pub pair-known : PairKnown
unfolding collides touch overlap hit pair_hit
pair-known = record {
  destinations = refl;
  then-read = refl;
  read-then = refl;
  reads = refl;
  one-offset = refl;
  other-array = refl;
  two-apart = refl;
  least-lower = refl;
  least-higher = refl;
  none = refl;
}
