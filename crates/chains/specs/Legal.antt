-- Legal shifts and peels: those that meet every dependence.
use Rattle.std.specs.Prelude.{ℕ, ◌+◌, ◌≤◌, List, get_or}
use Rattle.model.specs.declared.Reference.{Reference}
use Rattle.chains.specs.Graph.{Graph, Dependence}
use Rattle.chains.specs.Dependence.{backward, forward}

-- for each dependence the later loop's number is at least the earlier's plus the amount; s has a number for each loop
abbrev pub Legal : {R : Type 0} → (R → R → ℕ) → Graph R → List ℕ → Type 0
Legal {R} amount g s = (x y : R) → Dependence g x y → get_or s (g.number x) 0 + amount x y ≤ get_or s (g.number y) 0

-- a plan: shifts s and peels p
abbrev pub LegalPlan : Graph Reference → List ℕ → List ℕ → Type 0
LegalPlan g s p = Legal backward g s × Legal forward g p
