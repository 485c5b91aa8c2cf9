-- The plain run of a table's bytes: the answer, and what the memory then holds.
use Rattle.std.specs.Prelude.{ℕ, List, length, Float}
use Rattle.model.specs.PlainRun.{plain_run}
use Rattle.refusals.specs.Answers.{accepted, refused}
use Rattle.reader.specs.Reading.{Answer}
use Rattle.serial.specs.Serial.{table}
use Rattle.iterations.specs.Memory.{element_total, remembered}

-- 1 to 9, then 12, for a memory of n elements
unfoldable pub plain_answer : List ℕ → ℕ → Answer
plain_answer s n = remembered element_total n (table s)

-- a refused run changes nothing
unfoldable pub run_of : Answer → List Float → List Float
run_of (refused r) m = m
run_of (accepted t) m = plain_run t m

unfoldable pub plain_memory : List ℕ → List Float → List Float
plain_memory s m = run_of (plain_answer s (length m)) m
