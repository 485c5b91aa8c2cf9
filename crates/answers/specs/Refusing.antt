-- What each exported function on one table may be refused with: a ground of 1 to 9 that holds of the table's bytes, with what 9 names; or a later
-- one of its own that holds, of a table that none of the earlier ones refuses. What joining is refused with stands beside its definition.
use Rattle.std.specs.Prelude.{ℕ, ◌≡◌, List, length, Float}
use Rattle.refusals.specs.declared.Refusal.{Refusal}
use Rattle.refusals.specs.Refusals.{met, naming}
use Rattle.refusals.specs.Answers.{AnswerOf, accepted}
use Rattle.model.specs.Table.{Table}
use Rattle.serial.specs.Serial.{table}
use Rattle.tables.specs.Told.{Told}
use Rattle.amounts.specs.declared.Amounts.{Amounts}
use Rattle.plans.specs.Plans.{Settings, Planned, amounts_for, planned_for}
use Rattle.iterations.specs.Memory.{remembered}
use Rattle.stepping.specs.Step.{elements}
use Rattle.answers.specs.Statements.{Given, NotAPlan, FirstNotMet, BadProcessors, BadNumber, BadLine, Short, OtherLength, NoRoom, BadState}

-- an answer, and then a test of what it accepts: the answer's own refusal; or the test's number, where its ground holds, with place 0 and no name
pub data Then {T : Type 0} (a : AnswerOf T) (Before : Refusal → Type 0) (g : ℕ) (Holds : T → Type 0) : Refusal → Type 0 where
  before : {r : Refusal} → Before r → Then a Before g Holds r
  here : (t : T) → a ≡ accepted t → Holds t → Then a Before g Holds (met g 0)

module _ (s : List ℕ) where
  -- reading: 1 to 9
  abbrev pub ReadRefused : Refusal → Type 0
  ReadRefused r = Told r s

  module _ (w : Settings) where
    -- then, where a plan by hand is given, 19, and 20 with the pair of loops
    pub data HandRefused : Refusal → Type 0 where
      read : {r : Refusal} → ReadRefused r → HandRefused r
      nineteen : (t : Table) → table s ≡ accepted t → Given w → NotAPlan t w → HandRefused (met 19 0)
      twenty : (t : Table) (j k : ℕ) → table s ≡ accepted t → Given w → (NotAPlan t w → ⊥) → FirstNotMet t w j k → HandRefused (naming 20 j k 0)

    -- of a table with the shifts and peels that are meant, which neither refuses
    abbrev pub Meant : Table → Amounts → Type 0
    Meant t a = amounts_for w t ≡ accepted a

    -- then 10, which is asked of P and of a processor that is named, then 17 and 11, by their threshold
    abbrev pub CountRefused : Type 0 → Refusal → Type 0
    CountRefused Bad = Then (table s) HandRefused 10 (λ t. ((a : Amounts) × Meant t a) × Bad)

    abbrev pub LineRefused : Type 0 → Refusal → Type 0
    LineRefused Bad = Then (table s) (CountRefused Bad) 17 (λ t. ((a : Amounts) × Meant t a) × (Bad → ⊥) × BadLine w)

    abbrev pub FitRefused : Type 0 → Refusal → Type 0
    FitRefused Bad = Then (table s) (LineRefused Bad) 11 (λ t. (a : Amounts) × Meant t a × (Bad → ⊥) × (BadLine w → ⊥) × Short t a w)

    abbrev pub PlanRefused : Refusal → Type 0
    PlanRefused = FitRefused (BadProcessors w)

    abbrev pub NamedRefused : ℕ → Refusal → Type 0
    NamedRefused b = FitRefused (BadNumber w b)

-- 12, of a memory of n elements, and 13, of so much room, after an answer
module _ {T : Type 0} (a : AnswerOf T) (Before : Refusal → Type 0) where
  abbrev pub MemoryRefused : (T → ℕ) → ℕ → Refusal → Type 0
  MemoryRefused size n = Then a Before 12 (λ t. OtherLength n (size t))

  abbrev pub OutputRefused : (T → List ℕ) → ℕ → Refusal → Type 0
  OutputRefused bytes room = Then a Before 13 (λ t. NoRoom room (bytes t))

-- 15, of the counts
abbrev pub StateRefused : AnswerOf Planned → (Refusal → Type 0) → List ℕ → Refusal → Type 0
StateRefused a Before counts = Then a Before 15 (λ q. BadState q counts)

-- a step: 1 to 9, 19, 20, 10 of P and of its number, 17, 11, 12, 15
module _ (s : List ℕ) (w : Settings) (b : ℕ) (counts : List ℕ) (m : List Float) where
  abbrev pub StepRefused : Refusal → Type 0
  StepRefused =
      StateRefused (remembered elements (length m) (planned_for s w b))
      (MemoryRefused (planned_for s w b) (NamedRefused s w b) elements (length m)) counts

-- none of these refusals has the ground 0, which an accepted call answers
abbrev pub Nonzero : (Refusal → Type 0) → Type 0
Nonzero P = (r : Refusal) → P r → r.ground ≡ 0 → ⊥
