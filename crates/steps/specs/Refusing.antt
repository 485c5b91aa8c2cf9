-- A refused call hands back the counts as found.
use Rattle.refusals.specs.declared.Refusal.{Refusal}
use Rattle.stepping.specs.declared.Report.TheVariants.{Refused}
use Rattle.steps.specs.declared.Counts.{Counts}
use Rattle.steps.specs.declared.Stepped.{Stepped}

abbrev pub refusing : Counts → Refusal → Stepped
refusing counts r = record { counts = counts; report = Refused r }
