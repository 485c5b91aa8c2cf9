-- What is accepted meets no ground.
use Rattle.std.specs.Prelude.{ℕ, ◌≡◌, List}
use Rattle.std.proofs.Common.{sym, subst, ◌∙◌}
use Rattle.std.proofs.lemmas.Bool.{false≢true}
use Rattle.refusals.specs.Answers.{accepted}
use Rattle.refusals.proofs.AnswerLaws.{not-both}
use Rattle.model.specs.Table.{count}
use Rattle.tables.proofs.Nine.{valid}
use Rattle.chains.specs.TableGraph.{graph}
use Rattle.chains.specs.Legal.{LegalPlan}
use Rattle.chains.proofs.UnmetLaws.{legal-met}
use Rattle.amounts.specs.declared.Amounts.{Amounts}
use Rattle.legality.specs.Written.{amounts_in}
use Rattle.plans.specs.Plans.{Settings, Planned, amounts_for, planned}
use Rattle.plans.proofs.Accepted.{planned-accepts}
use Rattle.plans.proofs.FromBytes.{plan-by-hand}
use Rattle.answers.specs.Statements.{Given, NotAPlan, NotMet, BadProcessors, BadLine, Short}
use Rattle.answers.proofs.HandTests.{not-unmet}
use Rattle.answers.proofs.Tests.{ten, seventeen}
use Rattle.answers.proofs.Where.{nineteen-where, eleven-where}

-- an accepted plan meets none of them: 10, 17, 11 by its own threshold; and one by hand neither 19 nor 20
pub planned-free : (s : List ℕ) (w : Settings) (q : Planned) → planned s w ≡ accepted q
    → (BadProcessors w → ⊥) × (BadLine w → ⊥) × ((a : Amounts) → amounts_for w q.table ≡ accepted a → Short q.table a w → ⊥)
planned-free s w q e =
    let law = planned-accepts s w q e in (
      λ h. false≢true (sym law.not-ten ∙ (ten w).1 h),
      λ h. false≢true (sym law.not-seventeen ∙ (seventeen w).1 h),
      λ a m h. not-both (sym (eleven-where s w q.table law.read a m
          (λ i. false≢true (sym law.not-ten ∙ (ten w).1 i)) (λ i. false≢true (sym law.not-seventeen ∙ (seventeen w).1 i)) h) ∙ e),
    )

pub planned-met : (s : List ℕ) (w : Settings) (q : Planned) → planned s w ≡ accepted q → Given w
    → (NotAPlan q.table w → ⊥) × ((j k : ℕ) → NotMet q.table w j k → ⊥)
planned-met s w q e given =
    let law = planned-accepts s w q e in
    let h = plan-by-hand s w q e given in
    let a = amounts_in 2 0 (count q.table) w.plan in
    let legal = subst (λ (x : Amounts). LegalPlan (graph q.table) x.shifts x.peels) h.read h.legal in (
      λ n. not-both (sym (nineteen-where s w q.table law.read given n) ∙ e),
      λ j k n. legal-met (graph q.table) a.shifts a.peels legal j k (not-unmet q.table (valid s q.table law.read).few-loops w j k n),
    )
