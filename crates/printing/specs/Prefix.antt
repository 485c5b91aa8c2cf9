-- A program that keeps a table's first 4,096 bytes prints the same: every table has ended or met a ground before that.
use Rattle.std.specs.Prelude.{ℕ, ◌≡◌, List, take}
use Rattle.serial.specs.Serial.{table}
use Rattle.grounds.proofs.PrefixKept.{reading-kept}
use Rattle.plans.specs.Plans.{Settings, planned}
use Rattle.printing.specs.Printing.{text}

pub text-kept : (s : List ℕ) (w : Settings) → text (take 4096 s) w ≡ text s w
unfolding text planned table
text-kept s w = rw (reading-kept s)
