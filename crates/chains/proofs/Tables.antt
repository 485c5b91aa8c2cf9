-- All of it for a table of at most sixteen loops: over the references of its loops.
use Rattle.std.specs.Prelude.{ℕ, ◌≤◌, ◌<◌, ◌≡◌, false, ◌↔◌, List, [], ◌∷◌, length, get_or}
use Rattle.std.proofs.Common.{sym, ap, subst, ⊎_elim, arith}
use mathlib.Core.List.Memᴰ
use mathlib.Core.List.Memᴰ.{cases_cons}
use mathlib.Core.List.Memᴰ.{not-nil}
use mathlib.Core.List.{Memᴰ as Mem}
use Rattle.order.specs.Sequences.{Before}
use Rattle.order.specs.Lists.{before-left, before-right, before-joined, mem-joined, joined-mem}
use Rattle.model.specs.declared.Reference.{Reference}
use Rattle.model.specs.declared.Iteration.{Iteration}
use Rattle.model.specs.Table.{Item, read, constant, operation, Statement, Table, count, loop, Inside}
use Rattle.model.specs.References.{destination, reads, references, refs, all_refs, Meet}
use Rattle.chains.specs.Graph.{Dependence}
use Rattle.chains.specs.Dependence.{backward, forward}
use Rattle.chains.proofs.DependenceLaws.{Meets, dependence-meets, none-of-reads}
use Rattle.chains.specs.TableGraph.{graph}
use Rattle.chains.specs.Chains.{Largest}
use Rattle.chains.specs.Legal.{LegalPlan}
use Rattle.chains.specs.Walk.{shifts, peels, Ordered, Below}
use Rattle.chains.specs.Steps.{Pair, Numbers, steps, take_up, walked}
use Rattle.chains.proofs.StepLaws.{raised_by-none, walked-numbers, step-final}
use Rattle.chains.proofs.Largest.{numbers-largest, numbers-legal, numbers-least}

-- the references of loop k have its number
pub reads-number : (k : ℕ) (xs : List Item) (r : Reference) → Mem r (reads k xs) → r.number ≡ k
reads-number k [] r m = absurd (not-nil m)
reads-number k (read a o ∷ xs) r m = ⊎_elim (λ e. ap (λ (q : Reference). q.number) e) (reads-number k xs r) (cases_cons m)
reads-number k (constant n ∷ xs) r m = reads-number k xs r m
reads-number k (operation n ∷ xs) r m = reads-number k xs r m

references-number : (k : ℕ) (b : List Statement) (r : Reference) → Mem r (references k b) → r.number ≡ k
references-number k [] r m = absurd (not-nil m)
references-number k (s ∷ b) r m =
    ⊎_elim (λ i. ⊎_elim (λ e. ap (λ (q : Reference). q.number) e) (reads-number k s.items r) (cases_cons i)) (references-number k b r)
    (Memᴰ.append_cases (destination k s ∷ reads k s.items) m)

module _ (t : Table) where
  pub refs-number : (k : ℕ) (r : Reference) → Mem r (refs t k) → r.number ≡ k
  refs-number k r m = references-number k (loop t k).body r m

  -- a reference of the table is one of its loop's, and the other way round
  pub all_refs-refs : (r : Reference) → Mem r (all_refs t) → (r.number < count t) × Mem r (refs t r.number)
  all_refs-refs r m =
      let (k, l, i) = mem-joined (refs t) (count t) m in
      subst (λ (n : ℕ). (n < count t) × Mem r (refs t n)) (sym (refs-number k r i)) (l, i)

  pub refs-all_refs : (r : Reference) (k : ℕ) → Mem r (refs t k) → k < count t → Mem r (all_refs t)
  refs-all_refs r k m l = joined-mem (refs t) (count t) k l m

  pub all_refs-ordered : Ordered (graph t) (all_refs t)
  all_refs-ordered x y b =
      ⊎_elim (λ (k, l, h). omega (arith, refs-number k x (before-left h), refs-number k y (before-right h)))
      (λ (j, k, l, i, m, n). omega (arith, refs-number j x m, refs-number k y n)) (before-joined (refs t) (count t) b)

  -- where iterations of two loops meet, there is a dependence
  pub meet-dependence : (a b : Iteration) (x y : Reference) → Inside t a → Inside t b → a.number < b.number
      → Mem x (refs t a.number) → Mem y (refs t b.number) → Meet a.index b.index x y → Dependence (graph t) x y
  meet-dependence a b x y i j l m n h = record {
    from = refs-all_refs x a.number m i.0;
    to = refs-all_refs y b.number n j.0;
    joined = (dependence-meets t x y).1 (record {
      earlier-loop = rw (refs-number a.number x m, refs-number b.number y n) l;
      i = a.index;
      j = b.index;
      i-inside = rw (refs-number a.number x m) (i.1, i.2);
      j-inside = rw (refs-number b.number y n) (j.1, j.2);
      meet = h;
    });
  }

  -- the dependences of the graph are those that `dependence` says, and no others
  pub graph-dependence : (x y : Reference) → Dependence (graph t) x y ↔ (Mem x (all_refs t) × Mem y (all_refs t) × Meets t x y)
  graph-dependence x y =
      (λ d. (d.from, d.to, (dependence-meets t x y).0 d.joined), λ (m, n, h). record { from = m; to = n; joined = (dependence-meets t x y).1 h })

  module _ (sixteen : count t ≤ 16) where
    pub all_refs-below : Below 16 (graph t) (all_refs t)
    all_refs-below r m = omega (arith, (all_refs-refs r m).0)

    -- A loop's shift and its peel are the largest totals of backward and of forward amounts over all chains of dependences that end at it
    pub shift-largest : (k : ℕ) → Largest backward (graph t) k (get_or (shifts (graph t)) k 0)
    shift-largest = numbers-largest backward (graph t) all_refs-ordered all_refs-below

    pub peel-largest : (k : ℕ) → Largest forward (graph t) k (get_or (peels (graph t)) k 0)
    peel-largest = numbers-largest forward (graph t) all_refs-ordered all_refs-below

    -- they meet every dependence
    pub plan-legal : LegalPlan (graph t) (shifts (graph t)) (peels (graph t))
    plan-legal = (numbers-legal backward (graph t) all_refs-ordered all_refs-below, numbers-legal forward (graph t) all_refs-ordered all_refs-below)

    -- and no plan that does has a smaller number
    pub plan-least : (s p : List ℕ) → LegalPlan (graph t) s p → (k : ℕ)
        → (get_or (shifts (graph t)) k 0 ≤ get_or s k 0) × (get_or (peels (graph t)) k 0 ≤ get_or p k 0)
    plan-least s p l k =
        (numbers-least backward (graph t) all_refs-ordered all_refs-below s l.0 k, numbers-least forward (graph t) all_refs-ordered all_refs-below p l.1 k)

    -- what the steps of the walk over pairs leave, one after the other, from zeros: these numbers, when each pair has been taken up
    pub walk-leaves : walked (graph t) ≡ record { shifts = shifts (graph t); peels = peels (graph t); made = length (steps (graph t)) }
    walk-leaves = walked-numbers (graph t) all_refs-below

    pub walk-largest : (k : ℕ)
        → Largest backward (graph t) k (get_or (walked (graph t)).shifts k 0) × Largest forward (graph t) k (get_or (walked (graph t)).peels k 0)
    walk-largest k = rw walk-leaves (shift-largest k, peel-largest k)

  -- two reads change no shift and no peel
  pub reads-leave : (x y : Reference) (n : Numbers) → x.stores ≡ false → y.stores ≡ false
      → ((take_up (graph t) x y n).shifts ≡ n.shifts) × ((take_up (graph t) x y n).peels ≡ n.peels)
  reads-leave x y n e f =
      let d = none-of-reads t x y e f in
      (raised_by-none (graph t) backward x y n.shifts d, raised_by-none (graph t) forward x y n.peels d)

  -- no later step changes the numbers of a step's earlier loop, which are what it adds to
  pub walk-final : (p q : Pair Reference) → Before p q (steps (graph t)) → p.earlier.reference.number < q.later.reference.number
  walk-final = step-final (graph t) all_refs-ordered
