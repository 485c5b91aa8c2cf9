-- What a body works out and where it is stored, in bits.
use Rattle.std.specs.Prelude.{◌≡◌, refl, [], ◌∷◌, ◌++◌}
use Rattle.plain.specs.Plain.{plain_memory}
use Rattle.known.specs.Records.{array, ahead, behind, loop, read, constant, operation, end}
use Rattle.known.specs.Memory.{whole, element, bits}

pub record Values : Type 0 where
  -- 1 add, 2 subtract, 3 multiply, 4 divide, 5 negate; the later one is the right operand: 7 + 2, 7 - 2, 7 * 2, 7 / 2, -7
  pub sum : bits (constant 7 ++ constant 2 ++ operation 1) ≡ 0x4022000000000000
  pub difference : bits (constant 7 ++ constant 2 ++ operation 2) ≡ 0x4014000000000000
  pub product : bits (constant 7 ++ constant 2 ++ operation 3) ≡ 0x402C000000000000
  pub quotient : bits (constant 7 ++ constant 2 ++ operation 4) ≡ 0x400C000000000000
  pub negative : bits (constant 7 ++ operation 5) ≡ 0xC01C000000000000
  -- a constant becomes a float with nothing lost: the largest is 4,294,967,295
  pub constant-most : bits (constant 4294967295) ≡ 0x41EFFFFFFFE00000
  -- each operation rounded once: 1 / 10 + 2 / 10 is not 3 / 10
  pub rounded : bits (constant 1 ++ constant 10 ++ operation 4 ++ constant 2 ++ constant 10 ++ operation 4 ++ operation 1) ≡ 0x3FD3333333333334
  pub three-tenths : bits (constant 3 ++ constant 10 ++ operation 4) ≡ 0x3FD3333333333333
  -- iteration i of a loop with offset c stores at element i + c of the destination
  pub stored-ahead : plain_memory (array 3 ++ loop 0 1 0 (ahead 1) ++ constant 7 ++ end) (whole 0 ∷ whole 1 ∷ whole 2 ∷ [])
      ≡ whole 0 ∷ whole 7 ∷ whole 7 ∷ []
  pub stored-behind : plain_memory (array 3 ++ loop 1 2 0 (behind 1) ++ constant 7 ++ end) (whole 0 ∷ whole 1 ∷ whole 2 ∷ [])
      ≡ whole 7 ∷ whole 7 ∷ whole 2 ∷ []
  -- the arrays in order without gaps; a read of array q with offset o adds the number that element i + o of q then holds
  pub copied : plain_memory (array 2 ++ array 1 ++ loop 0 0 1 (ahead 0) ++ read 0 (ahead 1) ++ end) (whole 3 ∷ whole 4 ∷ whole 5 ∷ [])
      ≡ whole 3 ∷ whole 4 ∷ whole 4 ∷ []
  -- a refused run changes nothing
  pub unchanged : plain_memory [] (whole 3 ∷ []) ≡ whole 3 ∷ []

pub values : Values
unfolding element bits
values = record {
  sum = refl;
  difference = refl;
  product = refl;
  quotient = refl;
  negative = refl;
  constant-most = refl;
  rounded = refl;
  three-tenths = refl;
  stored-ahead = refl;
  stored-behind = refl;
  copied = refl;
  unchanged = refl;
}
