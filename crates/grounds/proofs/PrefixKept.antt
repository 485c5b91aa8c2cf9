-- The first 4,096 bytes of an input decide its answer.
use Rattle.std.specs.Prelude.{ℕ, ◌≡◌, take}
use Rattle.std.proofs.Common.{arith}
use mathlib.Core.List.{List}
use Rattle.reader.specs.Reading.{reading}
use Rattle.grounds.proofs.Prefix.{reading-take}

pub reading-kept : (s : List ℕ) → reading (take 4096 s) ≡ reading s
reading-kept s = reading-take s 4096 (omega arith)
