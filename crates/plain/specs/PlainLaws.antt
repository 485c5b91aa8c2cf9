-- A law of the plain run.
use Rattle.std.specs.Prelude.{ℕ, ◌≡◌, List, length, Float}
use Rattle.std.proofs.Common.{eq-eqb}
use Rattle.model.specs.Table.{Table}
use Rattle.model.specs.PlainRun.{plain_run}
use Rattle.refusals.specs.Answers.{accepted}
use Rattle.serial.specs.Serial.{table}
use Rattle.iterations.specs.Memory.{element_total, remembered}
use Rattle.plain.specs.Plain.{plain_answer, run_of, plain_memory}

-- LAW: of an accepted table and a memory of its length it is the plain run of the table
pub plain-memory : (s : List ℕ) (t : Table) (m : List Float) → table s ≡ accepted t → length m ≡ element_total t → plain_memory s m ≡ plain_run t m
unfolding plain_memory run_of plain_answer remembered
plain-memory s t m e l = rw (e, eq-eqb (length m) (element_total t) l)
