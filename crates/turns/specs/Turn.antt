-- A turn of a processor, whatever its lists are and however many phases they have: its next action, or waiting, or finished; and ground 15.
use Rattle.std.specs.Prelude.{ℕ, zero, suc, ◌-◌, Bool, ◌&&◌, ◌||◌, List, leb, length, get_or, set}
use Rattle.std.proofs.Math.Bool.{cond}
use Rattle.std.proofs.Math.Dec.{ltb}
use Rattle.refusals.specs.declared.Refusal.{Refusal}
use Rattle.refusals.specs.Refusals.{met}
use Rattle.order.specs.Sequences.{joined}
use Rattle.blocks.specs.Sums.{column, some, total}

-- what settles a run: so many processors and phases, and for each phase and processor a list
pub record Work (A : Type 0) : Type 0 where
  pub processors : ℕ
  pub phases : ℕ
  pub list : ℕ → ℕ → List A

-- what a call says
pub data Said (A : Type 0) : Type 0 where
  refuses : Refusal → Said A
  performs : A → Said A
  waits : Said A
  ends : Said A

-- what a call leaves: the counts of actions done, one for each of 64 processors; the memory; and what it says
pub record After (A M : Type 0) : Type 0 where
  pub counts : List ℕ
  pub memory : M
  pub said : Said A

-- waiting, finished and a refused call change nothing
abbrev pub stays : {A M : Type 0} → List ℕ → M → Said A → After A M
stays counts m s = record { counts = counts; memory = m; said = s }

module _ {A : Type 0} (w : Work A) where
  open w use {processors, phases, list}

  -- the lists of processor b, one after the other
  abbrev pub own : ℕ → List A
  own b = joined phases (λ n. list n b)

  -- how many actions processor b has in the phases before phase n
  abbrev pub before : ℕ → ℕ → ℕ
  before n b = total n (λ m. length (list m b))

  -- the barrier before phase n is closed while some list of an earlier phase is not used up
  unfoldable pub closed : List ℕ → ℕ → Bool
  closed counts n = some processors (λ b. ltb (column counts b) (before n b))

  -- of the phases up to n, the last one that processor b has come to, with so many actions done
  abbrev pub come_to : ℕ → ℕ → ℕ → ℕ
  come_to b done zero = 0
  come_to b done (suc n) = cond (leb (before (suc n) b) done) (suc n) (come_to b done n)

  abbrev pub phase_of : ℕ → ℕ → ℕ
  phase_of b done = come_to b done (phases - 1)

  -- 15: a count above its lists, a step of a phase before its barrier, or a count above 0 for a processor that is not there
  unfoldable pub wrong_count : List ℕ → ℕ → Bool
  unfolding closed
  wrong_count counts b =
      cond (ltb b processors)
      (ltb (before phases b) (column counts b) || some phases (λ n. ltb (before n b) (column counts b) && closed counts n))
      (ltb 0 (column counts b))

  unfoldable pub wrong_state : List ℕ → Bool
  unfolding wrong_count
  wrong_state counts = some 64 (wrong_count counts)

module _ {A : Type 0} (none : A) (w : Work A) where
  open w use {list}

  -- the next of the list of its phase, if the barrier before that is open; past the last list it is finished
  unfoldable pub next : ℕ → List ℕ → Said A
  unfolding closed
  next b counts =
      let done = column counts b in
      let n = phase_of w b done in
      cond (closed w counts n) waits
      (cond (ltb done (before w (suc n) b)) (performs (get_or (list n b) (done - before w n b) none)) ends)

-- one more of processor b
abbrev pub counted : List ℕ → ℕ → List ℕ
counted counts b = set counts b (suc (column counts b))

-- an action is performed, and counted
abbrev pub after : {A M : Type 0} → (A → M → M) → ℕ → List ℕ → M → Said A → After A M
after run b counts m (performs x) = record { counts = counted counts b; memory = run x m; said = performs x }
after run b counts m (refuses r) = stays counts m (refuses r)
after run b counts m waits = stays counts m waits
after run b counts m ends = stays counts m ends

module _ {A M : Type 0} (none : A) (w : Work A) (run : A → M → M) where
  unfoldable pub turn : ℕ → List ℕ → M → After A M
  unfolding next
  turn b counts m = after run b counts m (next none w b counts)

  -- 15, or the turn
  unfoldable pub stepped : ℕ → List ℕ → M → After A M
  unfolding wrong_state turn
  stepped b counts m = cond (wrong_state w counts) (stays counts m (refuses (met 15 0))) (turn b counts m)
