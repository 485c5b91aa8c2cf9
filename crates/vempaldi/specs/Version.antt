-- The version of the library.
use Rattle.std.specs.Prelude.{ℕ}

-- 0.4.0: 10,000 times the first number, 100 times the second, and the third
abbrev pub version : ℕ
version = 500
