-- The planner's answer where 10, 17 or 11 holds and none before it.
use Rattle.std.specs.Prelude.{ℕ, ◌≡◌, Bool, List}
use Rattle.std.proofs.Math.Path.{refl}
use Rattle.std.proofs.Math.Bool.{true, false}
use Rattle.refusals.specs.Refusals.{met}
use Rattle.refusals.specs.Answers.{accepted, refused}
use Rattle.model.specs.Table.{Table}
use Rattle.serial.specs.Serial.{table}
use Rattle.amounts.specs.declared.Amounts.{Amounts}
use Rattle.plans.specs.Plans.{Settings, bad_line, amounts_for, fitting}
use Rattle.answers.specs.Statements.{BadLine, Short}
use Rattle.answers.proofs.Tests.{Decides, eleven, seventeen}

-- a statement that does not hold is decided against
pub refuted : (x : Bool) {A : Type 0} → Decides x A → (A → ⊥) → x ≡ false
refuted true d n = absurd (n (d.0 refl))
refuted false d n = refl

-- of a table that was read, with the shifts and peels that are meant
module _ (s : List ℕ) (w : Settings) (t : Table) (read : table s ≡ accepted t) (a : Amounts) (meant : amounts_for w t ≡ accepted a) where
  pub fitting-ten : (wrong : Bool) → wrong ≡ true → fitting wrong w (table s) ≡ refused (met 10 0)
  unfolding fitting
  fitting-ten wrong e = rw (read, meant, e)

  pub fitting-seventeen : (wrong : Bool) → wrong ≡ false → BadLine w → fitting wrong w (table s) ≡ refused (met 17 0)
  unfolding fitting
  fitting-seventeen wrong e h = rw (read, meant, e, (seventeen w).1 h)

  pub fitting-eleven : (wrong : Bool) → wrong ≡ false → (BadLine w → ⊥) → Short t a w → fitting wrong w (table s) ≡ refused (met 11 0)
  unfolding fitting
  fitting-eleven wrong e n h = rw (read, meant, e, refuted (bad_line w) (seventeen w) n, (eleven t a w).1 h)
