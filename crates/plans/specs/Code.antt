-- What the planner's code leaves: what it tells of an answer, and the plan along one index beside the table in the store.
use Rattle.std.specs.Prelude.{◌≤◌, ◌<◌, ◌≡◌, length, Option, Result, MatchOption, MatchResult}
use Rattle.refusals.specs.declared.Refusal.{Refusal}
use Rattle.refusals.specs.Answers.{AnswerOf, accepted, refused}
use Rattle.records.specs.declared.storage.Store.{Store}
use Rattle.reader.specs.Store.{table_in}
use Rattle.reader.specs.Held.{Held}
use Rattle.blocks.specs.declared.Axis.{Axis}
use Rattle.lists.specs.Fusion.{fusion_in}
use Rattle.model.specs.Table.{Table}
use Rattle.amounts.specs.declared.Amounts.{Amounts}
use Rattle.plans.specs.Plans.{Settings, Planned, amounts_for}
use Rattle.plans.specs.Accepted.{Fit}

-- the table in the store c, with the plan that code keeps in a
abbrev pub planned_in : Axis → Store → Planned
planned_in a c = record { table = table_in c; plan = fusion_in a }

-- the plan by hand, if one is given: its numbers, which are accepted
abbrev pub Offered : Settings → Table → Option Amounts → Type 0
Offered w t o = MatchOption o (w.given ≡ 0) (λ a. amounts_for w t ≡ accepted a)

-- what code keeps of a plan along one index: both columns are sixteen long, and a line has 1 to 64 indices
pub record Kept (a : Axis) : Type 0 where
  pub shifts-long : length a.shifts ≡ 16
  pub peels-long : length a.peels ≡ 16
  pub some-line : 0 < a.line
  pub short-line : a.line ≤ 64

-- a plan that is accepted, of the table in the store
pub record Made (a : AnswerOf Planned) (x : Axis) (c : Store) : Type 0 where
  pub is : a ≡ accepted (planned_in x c)
  pub held : Held c
  pub kept : Kept x

-- code answers a plan, or the refusal as an error
abbrev pub Plans : AnswerOf Planned → Result Axis Refusal → Store → Type 0
Plans a r c = MatchResult r (λ x. Made a x c) (λ e. a ≡ refused e)

-- code answers the plan by hand, if one is given, or what it is refused with
abbrev pub Gives : Settings → Table → Result (Option Amounts) Refusal → Type 0
Gives w t r = MatchResult r (Offered w t) (λ e. amounts_for w t ≡ refused e)

-- WHAT CODE IS LENT of an accepted plan: the plan along an index, and the table in the store
pub record Laid (a : Axis) (c : Store) : Type 0 where
  pub held : Held c
  pub fit : Fit (table_in c) (fusion_in a)
  pub kept : Kept a
