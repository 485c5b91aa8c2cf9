-- How much a call adds to the idle count, by what it reports: a call that waits, is finished or is refused is idle.
use Rattle.std.specs.Prelude.{ℕ}
use Rattle.stepping.specs.declared.Report.{Report}
use Rattle.stepping.specs.declared.Report.TheVariants.{Refused, Performed, Waiting, Finished}

abbrev pub idling : Report → ℕ
idling (Refused r) = 1
idling (Performed k i) = 0
idling Waiting = 1
idling Finished = 1
