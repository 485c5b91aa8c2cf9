-- A table that is refused decides: every call on it is refused with what check is, whatever else it is given.
use Rattle.std.specs.Prelude.{ℕ, ◌≡◌, List, Float}
use Rattle.refusals.specs.declared.Refusal.{Refusal}
use Rattle.refusals.specs.Answers.{refused}
use Rattle.serial.specs.Serial.{table}
use Rattle.plans.specs.Plans.{Settings, fitting, planned, planned_for}
use Rattle.facts.specs.Facts.{facts_given}
use Rattle.entries.specs.Entries.{amounts, thresholds, sweeps_given, blocks_given, list_given, ranges_given}
use Rattle.printing.specs.Printing.{listing_given}
use Rattle.iterations.specs.Memory.{remembered}
use Rattle.plain.specs.Plain.{plain_answer}
use Rattle.turns.specs.Turn.{refuses, stays}
use Rattle.stepping.specs.Step.{stepped_by, step}
use Rattle.stepping.specs.Run.{run_answer}

module _ (s : List ℕ) (r : Refusal) (e : table s ≡ refused r) where
  pub facts-decided : (room : ℕ) → facts_given s room ≡ refused r
  unfolding facts_given
  facts-decided room = rw e

  pub amounts-decided : (room : ℕ) → amounts s room ≡ refused r
  unfolding amounts
  amounts-decided room = rw e

  pub threshold-decided : (room : ℕ) → thresholds s room ≡ refused r
  unfolding thresholds
  threshold-decided room = rw e

  pub sweeps-decided : (room : ℕ) → sweeps_given s room ≡ refused r
  unfolding sweeps_given
  sweeps-decided room = rw e

  pub check-decided : (w : Settings) → planned s w ≡ refused r
  unfolding planned fitting
  check-decided w = rw e

  pub blocks-decided : (w : Settings) (room : ℕ) → blocks_given s w room ≡ refused r
  unfolding blocks_given planned fitting
  blocks-decided w room = rw e

  pub listing-decided : (w : Settings) (room : ℕ) → listing_given s w room ≡ refused r
  unfolding listing_given planned fitting
  listing-decided w room = rw e

  pub list-decided : (phase : ℕ) (w : Settings) (b room : ℕ) → list_given phase s w b room ≡ refused r
  unfolding list_given planned_for fitting
  list-decided phase w b room = rw e

  pub ranges-decided : (phase : ℕ) (w : Settings) (b room : ℕ) → ranges_given phase s w b room ≡ refused r
  unfolding ranges_given planned_for fitting
  ranges-decided phase w b room = rw e

  pub plain-decided : (n : ℕ) → plain_answer s n ≡ refused r
  unfolding plain_answer remembered
  plain-decided n = rw e

  pub run-decided : (w : Settings) (n : ℕ) → run_answer s w n ≡ refused r
  unfolding planned fitting remembered
  run-decided w n = rw e

  pub step-decided : (w : Settings) (b : ℕ) (counts : List ℕ) (m : List Float) → step s w b counts m ≡ stays counts m (refuses r)
  unfolding step stepped_by planned_for fitting remembered
  step-decided w b counts m = rw e
