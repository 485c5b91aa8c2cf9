-- Where the loops' bounds are asked, 11 is given, by the table's own shifts and peels, of no table and processors of which it would not be given if they played no part.
use Rattle.std.specs.Prelude.{ℕ, ◌≤◌, ◌≡◌, refl, Bool, true, false, List}
use Rattle.std.proofs.Common.{arith, ⊎_elim}
use Rattle.model.specs.Table.{Table}
use Rattle.refusals.specs.Answers.{accepted}
use Rattle.serial.specs.Serial.{table}
use Rattle.chains.specs.Walk.{shifts, peels}
use Rattle.chains.specs.Threshold.{threshold}
use Rattle.chains.specs.Fewer.{without_bounds}
use Rattle.chains.proofs.FewerThreshold.{threshold-never-larger}
use Rattle.blocks.specs.Span.{table_span}
use Rattle.blocks.specs.Blocks.{is_short}
use Rattle.blocks.proofs.LineLaws.{short-given, short-not}
use Rattle.tables.proofs.Nine.{valid}
use Rattle.plans.specs.Plans.{Settings, own, short_for}

-- blocks that are long enough for a threshold are so for a smaller one
short-smaller : (T W P v w : ℕ) → v ≤ w → is_short T W P w ≡ false → is_short T W P v ≡ false
short-smaller T W P v w l e = go (is_short T W P v) refl
  where
    go : (b : Bool) → is_short T W P v ≡ b → is_short T W P v ≡ false
    go true q =
        let (m, n) = short-not T W P w e in
        absurd (⊎_elim (λ h. omega arith) (λ (two, b, i, h). omega (arith, n two b i)) (short-given T W P v q))
    go false q = q

pub never-short : (s : List ℕ) (t : Table) → table s ≡ accepted t → (w : Settings)
    → is_short (table_span t).count w.line w.processors (threshold (shifts (without_bounds t)) (peels (without_bounds t))) ≡ false
    → short_for t (own t) w ≡ false
never-short s t read w = short-smaller _ _ _ _ _ (threshold-never-larger t (valid s t read).few-loops)
