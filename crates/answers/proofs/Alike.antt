-- The planner's answer where the bytes of two plans by hand are the same.
use Rattle.std.specs.Prelude.{ℕ, ◌+◌, ◌*◌, ◌<◌, ◌≡◌, Bool, get_or}
use Rattle.std.proofs.Common.{arith, ap}
use Rattle.std.proofs.Math.Decide.{ℕ_discrete}
use Rattle.std.proofs.Math.Path.{refl}
use mathlib.Core.List.{List}
use borrow.Author.Tests.{eq-eqb, ne_eqb}
use Rattle.refusals.specs.Answers.{accepted, refused}
use Rattle.model.specs.Table.{Table, count}
use Rattle.serial.specs.Serial.{table}
use Rattle.reader.specs.Reading.{Answer}
use Rattle.records.specs.Bytes.{two, four}
use Rattle.legality.specs.Written.{number_at, amounts_in}
use Rattle.legality.proofs.WrittenLaws.{filled-same}
use Rattle.legality.specs.ByHand.{judged, by_hand}
use Rattle.plans.specs.Plans.{Settings, amounts_for, fitting}
use Rattle.answers.specs.RoundTrip.{same}

module _ (w : Settings) (bs : List ℕ) where
  abbrev pub other_bytes : Settings
  other_bytes = record { processors = w.processors; line = w.line; given = w.given; size = w.size; plan = bs }

-- as far as the plan goes
module _ (s : List ℕ) (w : Settings) (bs : List ℕ) (alike : (i : ℕ) → i < w.size → get_or w.plan i 0 ≡ get_or bs i 0) where
  number-alike : (n : ℕ) → 4 * n + 3 < w.size → number_at w.plan n ≡ number_at bs n
  unfolding four two
  number-alike n l = rw (alike (4 * n) (omega arith), alike (4 * n + 1) (omega arith), alike (4 * n + 2) (omega arith), alike (4 * n + 2 + 1) (omega arith))

  hand-alike : (t : Table) → by_hand t w.size w.plan ≡ by_hand t w.size bs
  unfolding by_hand
  hand-alike t = go (ℕ_discrete w.size (8 * count t))
    where
      go : Dec (w.size ≡ 8 * count t) → by_hand t w.size w.plan ≡ by_hand t w.size bs
      go (no n) = rw (ne_eqb w.size (8 * count t) n)
      go (yes e) =
          rw (eq-eqb w.size (8 * count t) e)
          (ap (judged t) (same (amounts_in 2 0 (count t) w.plan) (amounts_in 2 0 (count t) bs)
          (filled-same (count t) _ _ (λ k l. number-alike (2 * k + 0) (omega arith))) (filled-same (count t) _ _ (λ k l. number-alike (2 * k + 0 + 1) (omega arith)))))

  pub fitting-alike : (wrong : Bool) → fitting wrong w (table s) ≡ fitting wrong (other_bytes w bs) (table s)
  unfolding fitting amounts_for
  fitting-alike wrong = go (table s)
    where
      go : (a : Answer) → fitting wrong w a ≡ fitting wrong (other_bytes w bs) a
      go (refused r) = refl
      go (accepted t) = rw (hand-alike t)
