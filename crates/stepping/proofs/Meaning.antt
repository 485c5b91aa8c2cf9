-- What a step's report says.
use Rattle.std.specs.Prelude.{ℕ, ◌+◌, ◌≤◌, ◌<◌, ◌≡◌, ◌⊎◌, Bool, List, ◌++◌, length, get_or, Float}
use Rattle.std.proofs.Common.{arith, sym, subst, ◌∙◌}
use Rattle.std.proofs.Math.Path.{refl, ap}
use Rattle.std.proofs.Math.Logic.{inl, inr}
use Rattle.std.proofs.Math.Bool.{true, false}
use Rattle.std.proofs.lemmas.Bool.{false≢true}
use Rattle.order.specs.Lists.{nth-mem, mem-joined}
use Rattle.model.specs.declared.Iteration.{Iteration}
use Rattle.model.specs.Table.{iteration, Inside}
use Rattle.model.specs.Bodies.{run}
use Rattle.refusals.specs.declared.Refusal.{Refusal}
use Rattle.refusals.specs.Refusals.{met}
use Rattle.refusals.specs.Answers.{AnswerOf, accepted, refused}
use Rattle.grounds.proofs.AcceptedLaws.{valid-last}
use Rattle.blocks.specs.Sums.{column}
use Rattle.lists.proofs.FusionLaws.{once}
use Rattle.turns.specs.Turn.{Said, refuses, performs, waits, ends, After, stays, wrong_state, next, turn, stepped, own}
use Rattle.turns.proofs.Meaning.{turn-said, performs-says, waits-says, ends-says}
use Rattle.plans.specs.Plans.{Settings, Planned, planned, planned_for}
use Rattle.plans.proofs.Accepted.{planned-accepts, named-accepts}
use Rattle.iterations.specs.Memory.{remembered}
use Rattle.iterations.specs.MemoryLaws.{remembered-accepted}
use Rattle.stepping.specs.declared.Report.{Report}
use Rattle.stepping.specs.declared.Report.TheVariants.{Performed, Waiting, Finished}
use Rattle.stepping.specs.Step.{work_of, report_of, elements, stepped_by, step, fused, peeled}

-- a report says what its call said
pub said-performs : (a : Said Iteration) (k i : ℕ) → report_of a ≡ Performed k i → a ≡ performs (iteration k i)
said-performs (refuses r) k i e = cc
said-performs (performs x) k i e = let l : x.number ≡ k = cc in let j : x.index ≡ i = cc in rw (← l, ← j)
said-performs waits k i e = cc
said-performs ends k i e = cc

said-waits : (a : Said Iteration) → report_of a ≡ Waiting → a ≡ waits
said-waits (refuses r) e = cc
said-waits (performs x) e = cc
said-waits waits e = refl
said-waits ends e = cc

pub said-ends : (a : Said Iteration) → report_of a ≡ Finished → a ≡ ends
said-ends (refuses r) e = cc
said-ends (performs x) e = cc
said-ends waits e = cc
said-ends ends e = refl

-- it is no refusal
abbrev goes_on : Said Iteration → Bool
goes_on (refuses r) = false
goes_on (performs x) = true
goes_on waits = true
goes_on ends = true

module _ (s : List ℕ) (w : Settings) (b : ℕ) (cs : List ℕ) (m : List Float) where
  -- a call is refused and changes nothing, or it is a turn of an accepted plan, memory and state
  pub record Turns (q : Planned) : Type 0 where
    pub plan : planned s w ≡ accepted q
    pub proper : b < q.plan.processors
    pub memory : length m ≡ elements q
    pub state : wrong_state (work_of q) cs ≡ false
    pub turns : step s w b cs m ≡ turn (iteration 0 0) (work_of q) (run q.table) b cs m

  abbrev pub IsRefused : Type 0
  IsRefused = (r : Refusal) × (step s w b cs m ≡ stays cs m (refuses r))

  pub step_is : IsRefused ⊎ ((q : Planned) × Turns q)
  unfolding step stepped_by stepped
  step_is = go (remembered elements (length m) (planned_for s w b)) refl
    where
      at : (q : Planned) → remembered elements (length m) (planned_for s w b) ≡ accepted q → (x : Bool) → wrong_state (work_of q) cs ≡ x
          → IsRefused ⊎ ((q : Planned) × Turns q)
      at q e true f = inl (met 15 0, ap (stepped_by b cs m) e ∙ (rw f))
      at q e false f =
          let (a, l) = remembered-accepted elements (length m) (planned_for s w b) q e in
          let (p, proper) = named-accepts s w b q a in
          inr (q, record { plan = p; proper = proper; memory = l; state = f; turns = ap (stepped_by b cs m) e ∙ (rw f) })

      go : (a : AnswerOf Planned) → remembered elements (length m) (planned_for s w b) ≡ a → IsRefused ⊎ ((q : Planned) × Turns q)
      go (refused r) e = inl (r, ap (stepped_by b cs m) e)
      go (accepted q) e = at q e (wrong_state (work_of q) cs) refl

  -- where it is not refused, it says what comes next
  says : (a : Said Iteration) → goes_on a ≡ true → (step s w b cs m).said ≡ a → (q : Planned) × Turns q × (next (iteration 0 0) (work_of q) b cs ≡ a)
  says a on e = go step_is
    where
      said : {x y : After Iteration (List Float)} → x ≡ y → x.said ≡ y.said
      said f = ap (λ (x : After Iteration (List Float)). x.said) f

      go : IsRefused ⊎ ((q : Planned) × Turns q) → (q : Planned) × Turns q × (next (iteration 0 0) (work_of q) b cs ≡ a)
      go (inl (r, f)) = absurd (false≢true (ap goes_on (sym (said f) ∙ e) ∙ on))
      go (inr (q, t)) = (q, t, sym (said t.turns ∙ turn-said (iteration 0 0) (work_of q) (run q.table) b cs m) ∙ e)

  abbrev pub report : Report
  report = report_of (step s w b cs m).said

  -- the reported iteration is the count-th of that processor's lists
  pub performed-nth : (k i : ℕ) → report ≡ Performed k i → (q : Planned) × Turns q
      × ((column cs b < length (fused q b ++ peeled q b)) × (get_or (fused q b ++ peeled q b) (column cs b) (iteration 0 0) ≡ iteration k i))
  performed-nth k i e =
      let (q, t, f) = says (performs (iteration k i)) refl (said-performs (step s w b cs m).said k i e) in
      (q, t, performs-says (iteration 0 0) (work_of q) (omega arith) b cs (iteration k i) f)

  -- waiting: its fused list is used up, and another's is not
  pub waiting-says : report ≡ Waiting
      → (q : Planned) × Turns q × ((length (fused q b) ≤ column cs b) × ((d : ℕ) × (d < q.plan.processors) × (column cs d < length (fused q d))))
  waiting-says e =
      let (q, t, f) = says waits refl (said-waits (step s w b cs m).said e) in
      let (n, c, z, (d, l, h)) = waits-says (iteration 0 0) (work_of q) (omega arith) b cs f in
      let one : n ≡ 1 = omega (arith, c.proper) in
      (q, t, (omega (arith, rw one at c.used), (d, l, omega (arith, rw one at h))))

  -- finished: both its lists are used up, and the barrier is open
  pub finished-says : report ≡ Finished → (q : Planned) × Turns q
      × ((length (fused q b) + length (peeled q b) ≤ column cs b) × ((d : ℕ) → d < q.plan.processors → length (fused q d) ≤ column cs d))
  finished-says e =
      let (q, t, f) = says ends refl (said-ends (step s w b cs m).said e) in
      let (u, o) = ends-says (iteration 0 0) (work_of q) (omega arith) b cs f in
      (q, t, (omega arith, λ d l. omega (arith, o d l)))

  -- its loop is one of sixteen, and its index is small
  pub performed-small : (k i : ℕ) → report ≡ Performed k i → (k < 16) × (i ≤ 65790)
  performed-small k i e =
      let (q, t, (l, g)) = performed-nth k i e in
      let f = (planned-accepts s w q t.plan).fit in
      let (n, j, h) = mem-joined (λ n. (work_of q).list n b) 2 (nth-mem (own (work_of q) b) (iteration 0 0) (column cs b) l) in
      let x = subst (Inside q.table) g ((once q.table q.plan f.wide).alone n b _ j t.proper h).0 in
      (omega (arith, x.0, f.valid.few-loops), omega (arith, x.2, valid-last q.table f.valid k x.0))
