-- What a turn says.
use Rattle.std.specs.Prelude.{ℕ, suc, ◌-◌, ◌≤◌, ◌<◌, ◌≡◌, refl, List, length, get_or}
use Rattle.std.proofs.Common.{arith, subst}
use Rattle.order.specs.Sequences.{joined}
use Rattle.blocks.specs.Sums.{column}
use Rattle.lists.specs.Joined.{length-joined, walk_here}
use Rattle.turns.specs.Turn.{Work, Said, refuses, performs, waits, ends, own, before, next, after, turn}
use Rattle.turns.proofs.Reach.{before-up, Come, Turn, does, halts, stops, turn_is}
use Rattle.turns.specs.Reachable.{Opened}

pub own-length : {A : Type 0} (w : Work A) (b n : ℕ) → length (joined n (λ n. w.list n b)) ≡ before w n b
own-length w b n = length-joined (λ n. w.list n b) n

-- the next of its phase is the next of them all
module _ {A : Type 0} {w : Work A} {b n : ℕ} {cs : List ℕ} (c : Come w b cs n) (more : column cs b < before w (suc n) b) where
  pub own-more : column cs b < length (own w b)
  own-more = omega (arith, own-length w b w.phases, before-up w (suc n) w.phases b c.proper)

  pub own-nth : (none : A) → get_or (own w b) (column cs b) none ≡ get_or (w.list n b) (column cs b - before w n b) none
  own-nth none =
      walk_here (λ n. w.list n b) none w.phases n (column cs b) (column cs b - before w n b) c.proper (omega (arith, own-length w b n))
      (omega arith)

-- a turn says what comes next
pub turn-said : {A M : Type 0} (none : A) (w : Work A) (run : A → M → M) (b : ℕ) (cs : List ℕ) (m : M) → (turn none w run b cs m).said ≡ next none w b cs
unfolding turn
turn-said {A} none w run b cs m = go (next none w b cs)
  where
    go : (s : Said A) → (after run b cs m s).said ≡ s
    go (refuses r) = refl
    go (performs x) = refl
    go waits = refl
    go ends = refl

module _ {A : Type 0} (none : A) (w : Work A) (some-phase : 0 < w.phases) (b : ℕ) (cs : List ℕ) where
  open w use {processors, phases}

  view : {s : Said A} → next none w b cs ≡ s → Turn none w b cs s
  view e = subst (Turn none w b cs) e (turn_is none w some-phase b cs)

  -- the action performed is the count-th of that processor's lists
  pub performs-says : (x : A) → next none w b cs ≡ performs x → (column cs b < length (own w b)) × (get_or (own w b) (column cs b) none ≡ x)
  performs-says x e = go (view e)
    where
      go : {x : A} → Turn none w b cs (performs x) → (column cs b < length (own w b)) × (get_or (own w b) (column cs b) none ≡ x)
      go (does n c o h) = (own-more c h, own-nth c h none)

  -- waiting: its lists before the phase that it has come to are used up, and another's are not
  pub waits-says : next none w b cs ≡ waits → (n : ℕ) × Come w b cs n × (0 < n) × ((d : ℕ) × (d < processors) × (column cs d < before w n d))
  waits-says e = go (view e)
    where
      go : Turn none w b cs waits → (n : ℕ) × Come w b cs n × (0 < n) × ((d : ℕ) × (d < processors) × (column cs d < before w n d))
      go (halts n c z h) = (n, c, z, h)

  -- finished: all its lists are used up, and every barrier is open
  pub ends-says : next none w b cs ≡ ends → (before w phases b ≤ column cs b) × Opened w cs (phases - 1)
  ends-says e = go (view e)
    where
      go : Turn none w b cs ends → (before w phases b ≤ column cs b) × Opened w cs (phases - 1)
      go (stops u o) = (u, o)
