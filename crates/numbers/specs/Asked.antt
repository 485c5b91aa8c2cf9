-- The numbers that a call is asked for: four bytes each and nothing more, or 13 where they don't fit.
use Rattle.std.specs.Prelude.{ℕ, List}
use Rattle.outputs.specs.Given.{Given, fitted}
use Rattle.numbers.specs.Numbers.{encoded}

abbrev pub numbers : ℕ → List ℕ → Given
numbers room xs = fitted room (encoded xs)
