-- DEMAND 3. One accepted table with its plan, and any memory of the table's length. For every row of step calls from counts of 0, whatever
-- numbers they name: once every iteration has been reported, the memory is what the plain run leaves from the same start.
use Rattle.std.specs.Prelude.{ℕ, ◌<◌, ◌≡◌, List, [], ◌∷◌, ◌++◌, map, drop, Float}
use Rattle.std.proofs.Common.{arith, sym, ap, ◌∙◌, ⊎_elim}
use mathlib.Core.List.Memᴰ
use mathlib.Core.List.Memᴰ.{head as mhere}
use mathlib.Core.List.Memᴰ.{tail as mthere}
use mathlib.Core.List.{Memᴰ as Mem}
use Rattle.order.specs.Sequences.{Before, NoDup}
use Rattle.model.specs.declared.Iteration.{Iteration}
use Rattle.model.specs.PlainRun.{plain_run}
use Rattle.refusals.specs.Answers.{accepted}
use Rattle.chains.specs.Graph.{Dependence}
use Rattle.chains.specs.TableGraph.{graph}
use Rattle.chains.proofs.Tables.{meet-dependence}
use Rattle.blocks.specs.Sums.{column}
use Rattle.lists.proofs.FusionLaws.{Once, once as in-one-list, owner, phase}
use Rattle.rows.proofs.Theorem.{any-schedule}
use Rattle.turns.specs.Turn.{Said, performs}
use Rattle.turns.specs.Row as rows
use Rattle.turns.specs.Row.{actions_of, none_done, reports, counts_after, memory_after, reports_to}
use Rattle.turns.specs.Reachable.{Reachable}
use Rattle.turns.proofs.Follows.{started}
use Rattle.turns.proofs.Complete as turns
use Rattle.turns.proofs.Own as own
use Rattle.turns.proofs.Reached as reach
use Rattle.plans.specs.Plans.{Settings, Planned, planned}
use Rattle.plans.proofs.Accepted.{planned-accepts}
use Rattle.plain.specs.Plain.{plain_memory}
use Rattle.plain.specs.PlainLaws.{plain-memory}
use Rattle.stepping.specs.declared.Report.TheVariants.{Performed}
use Rattle.stepping.specs.Step.{work_of, report_of, fused, peeled, step}
use Rattle.stepping.proofs.Meaning.{said-performs}
use Rattle.calls.specs.Rows.{Fits, Complete, row}
use Rattle.calls.specs.Calls.{fit, calls}

-- a report names an iteration exactly if its call performed it
reported-performs : (x : Iteration) (ss : List (Said Iteration)) → Mem (Performed x.number x.index) (map report_of ss) → Mem (performs x) ss
reported-performs x [] m = absurd (Memᴰ.not-nil m)
reported-performs x (a ∷ ss) m =
    ⊎_elim (λ (e : Performed x.number x.index ≡ report_of a). mhere (sym (said-performs a x.number x.index (sym e))))
    (λ h. mthere (reported-performs x ss h)) (Memᴰ.cases_cons m)

performs-reported : (x : Iteration) (ss : List (Said Iteration)) → Mem (performs x) ss → Mem (Performed x.number x.index) (map report_of ss)
performs-reported x [] m = absurd (Memᴰ.not-nil m)
performs-reported x (a ∷ ss) m =
    ⊎_elim (λ (e : performs x ≡ a). mhere (ap report_of e)) (λ h. mthere (performs-reported x ss h)) (Memᴰ.cases_cons m)

module _ (s : List ℕ) (w : Settings) (q : Planned) (planned-is : planned s w ≡ accepted q) where
  -- the iterations of the table are those of the lists
  pub home : Once q.table q.plan (fit s w q planned-is).wide
  home = in-one-list q.table q.plan (fit s w q planned-is).wide

  module _ (bs : List ℕ) (m : List Float) where
    pub listed : Complete s w q bs m → rows.Complete (step s w) (work_of q) bs m
    listed all n b x l i h = reported-performs x (reports (step s w) bs none_done m) (all x (home.alone n b x l i h).0)

    pub unlisted : rows.Complete (step s w) (work_of q) bs m → Complete s w q bs m
    unlisted all x i =
        let (l, j, h) = home.listed x i in
        performs-reported x (reports (step s w) bs none_done m) (all (phase q.table q.plan x) (owner q.table q.plan x) x j l h)

  module _ (bs : List ℕ) (m : List Float) (fits : Fits q m) where
    pub any-row : Complete s w q bs m → memory_after (step s w) bs none_done m ≡ plain_memory s m
    any-row all =
        let f = fit s w q planned-is in
        turns.any-row (calls s w q planned-is) bs m fits (plain_run q.table)
        (any-schedule q.table f.sound (Dependence (graph q.table)) (meet-dependence q.table) q.plan f.legal f.wide)
        (listed bs m all)
        ∙ sym (plain-memory s q.table m (planned-accepts s w q planned-is).read fits)

    -- BESIDE IT, of every row, complete or not: no iteration is reported twice
    pub once : NoDup (row s w bs m)
    once = turns.once (calls s w q planned-is) bs m fits

    -- none of a later phase is reported before the last one of an earlier phase
    pub by-phase : (i j a b : ℕ) (x y : Iteration) → i < j → j < (work_of q).phases → a < q.plan.processors → b < q.plan.processors
        → Mem y ((work_of q).list i a) → Mem x ((work_of q).list j b) → Mem x (row s w bs m) → Before y x (row s w bs m)
    by-phase = turns.barrier (calls s w q planned-is) bs m fits

    -- no peeled iteration is reported before the last fused one
    pub barrier : (a b : ℕ) (x y : Iteration) → a < q.plan.processors → b < q.plan.processors → Mem x (peeled q a) → Mem y (fused q b)
        → Mem x (row s w bs m) → Before y x (row s w bs m)
    barrier a b x y i j p f = by-phase 0 1 b a x y (omega arith) (omega arith) j i f p

    -- each processor keeps its own list's order: the calls that name it have performed the first of its fused list and then its peeled list,
    -- as many as its count says
    pub own-calls : (d : ℕ) → d < q.plan.processors
        → actions_of (reports_to (step s w) d bs none_done m) ++ drop (column (counts_after (step s w) bs none_done m) d) (fused q d ++ peeled q d)
        ≡ fused q d ++ peeled q d
    own-calls d l = own.own-calls (calls s w q planned-is) d l bs m fits

    -- the counts are such as ground 15 lets in
    pub lets-in : Reachable (work_of q) (counts_after (step s w) bs none_done m)
    lets-in = (started (calls s w q planned-is) bs m fits).reachable

  module _ (m : List Float) (fits : Fits q m) where
    -- and all that it lets in are reached
    pub reached : (cs : List ℕ) → Reachable (work_of q) cs → (bs : List ℕ) × (counts_after (step s w) bs none_done m ≡ cs)
    reached = reach.reached (calls s w q planned-is) m fits

    -- any two complete rows leave one memory
    pub same_memory : (bs ds : List ℕ) → Complete s w q bs m → Complete s w q ds m
        → memory_after (step s w) bs none_done m ≡ memory_after (step s w) ds none_done m
    same_memory bs ds all whole = any-row bs m fits all ∙ sym (any-row ds m fits whole)

    -- and there is a complete row
    pub some-row : (bs : List ℕ) × Complete s w q bs m
    some-row = let (bs, all) = turns.some-row (calls s w q planned-is) m fits in (bs, unlisted bs m all)
