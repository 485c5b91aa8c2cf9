use Prim.Native.Nat.{ℕ, ◌-◌, ◌<◌}
use native.Mathlib.Omega.{arith}
use mathlib.Core.Path.{◌≡◌, sym, ap, ◌∙◌}
use Rattle.blocks.specs.Sums.{column}
use Rattle.barriers.specs.Code.{phase_by}
use Rattle.steps.proofs.Next.{used, says-waits, says-ends, nth-asks, nth-says}
use Rattle.steps.proofs.Layout.next_of.Goals as goal
use Rattle.steps.proofs.Layout.next_of.Goals.{After-phase_of-phase}

-- the phase that its processor has come to
come : (c : After-phase_of-phase) → c.phase_of-phase.result ≡ phase_by c.args.self.now.barriers.now.ends.now 2 c.args.b (column c.args.counts.now c.args.b)
come c =
    let a = c.args in
    c.phase_of-phase.ensures.is
    ∙ ap (λ (k : ℕ). phase_by a.self.now.barriers.now.ends.now k a.b (column a.counts.now a.b)) a.self.now.in_two_phases

within : (c : After-phase_of-phase) → c.phase_of-phase.result < 2
within c = omega (arith, c.phase_of-phase.ensures.within, c.args.self.now.in_two_phases)

pub returns-then-is_closed : goal.returns-then-is_closed
returns-then-is_closed c =
    let k = (goal.at.returns-then-is_closed c).After-phase_of-phase in
    λ w p h. says-waits p h c.requires.1 c.args.counts.now k.phase_of-phase.result (come k) (within k) (sym c.if-is_closed.true ∙ c.is_closed.ensures)

pub returns-then-before-done : goal.returns-then-before-done
returns-then-before-done c =
    let k = (goal.at.returns-then-before-done c).After-phase_of-phase in
    λ w p h. says-ends p h c.requires.1 c.args.counts.now k.phase_of-phase.result (come k) (within k)
    (sym c.if-is_closed.false ∙ c.is_closed.ensures) (omega (arith, c.if-before-done.true, c.before-2.ensures))

pub overflow_sub-n : goal.overflow_sub-n
overflow_sub-n c =
    let k = (goal.at.overflow_sub-n c).After-phase_of-phase in
    omega (arith, c.before-3.ensures, used c.requires.0.1 c.requires.0.2 c.requires.1 c.args.counts.now k.phase_of-phase.result (come k) (within k))

pub nth_of-x-requires : goal.nth_of-x-requires
nth_of-x-requires c =
    let a = c.args in
    let k = (goal.at.nth_of-x-requires c).After-phase_of-phase in
    nth-asks c.requires.0.1 c.requires.0.2 c.requires.1 a.counts.now k.phase_of-phase.result (come k) (within k) _ _ _ _ c.loops_in-loops.ensures
    (ap (λ (n : ℕ). column a.counts.now a.b - n) c.before-3.ensures) c.of-ranges.ensures (omega (arith, c.if-before-done.false, c.before-2.ensures))

pub returns : goal.returns
returns c =
    let a = c.args in
    let k = (goal.at.returns c).After-phase_of-phase in
    λ w p h. nth-says p h c.requires.1 a.counts.now k.phase_of-phase.result (come k) (within k) _ _ _ _ c.loops_in-loops.ensures
    (ap (λ (n : ℕ). column a.counts.now a.b - n) c.before-3.ensures) c.of-ranges.ensures (omega (arith, c.if-before-done.false, c.before-2.ensures))
    (sym c.if-is_closed.false ∙ c.is_closed.ensures) c.nth_of-x.result c.nth_of-x.ensures
