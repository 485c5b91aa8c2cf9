-- A turn, for any number of phases, is a turn of the machine with those lists (order's Machine): it performs the same action, if any, and
-- leaves the same counts. Assumes nothing.
use Rattle.std.specs.Prelude.{ℕ, zero, suc, ◌+◌, ◌-◌, ◌≤◌, ◌<◌, ◌≡◌, List, [], ◌∷◌, ◌++◌, length, get_or, drop}
use Rattle.std.proofs.Common.{arith, ap, ◌∙◌, subst, inl, inr, ⊎_elim, append-nil, append_assoc, drop-cons}
use Rattle.std.proofs.Math.Decide.{dec_lt, ℕ_discrete}
use Rattle.std.proofs.Math.Path.{refl, sym, fun_ext}
use mathlib.Core.List.Memᴰ.{head as mhere}
use mathlib.Core.List.{Memᴰ as Mem}
use Rattle.std.proofs.Math.Seq.{drop-append-add}
use Rattle.std.proofs.lemmas.List.{drop-append-le}
use Rattle.order.specs.Lists.{if_yes, put_same, put_other, mem-joined, drop-mem, nth-mem, Tested}
use Rattle.order.specs.Sequences.{joined, run_all}
use Rattle.order.specs.Machine.{Plan, left, rest, left-rest, Late, open?, next-open, bump, count}
use Rattle.order.specs.Machine.{next as goes_on}
use Rattle.order.specs.Rows.{Rows, plan, whole}
use Rattle.blocks.specs.Sums.{column}
use Rattle.turns.specs.Turn.{Said, refuses, performs, waits, ends, After, before, next, counted, after, turn}
use Rattle.turns.specs.Row.{action_in}
use Rattle.turns.specs.Calls.{work}
use Rattle.turns.proofs.Reach.{counted_same, counted-other, Come, Turn, does, halts, stops, turn_is}
use Rattle.turns.proofs.Meaning.{own-length, own-more, own-nth, turn-said}

pub drop_all : {A : Type 0} (n : ℕ) (l : List A) → length l ≤ n → drop n l ≡ []
drop_all zero [] h = refl
drop_all zero (x ∷ l) h = absurd (omega arith)
drop_all (suc n) [] h = refl
drop_all (suc n) (x ∷ l) h = drop_all n l (omega arith)

-- ROWS OF LISTS: past the first n lists of a row stand the others; before their end stands one of theirs
joined-split : {A : Type 0} (f : ℕ → List A) (n d : ℕ) → joined (n + d) f ≡ joined n f ++ joined d (λ k. f (n + k))
joined-split f n zero = let e : n + 0 ≡ n = omega arith in ap (λ (k : ℕ). joined k f) e ∙ sym (append-nil (joined n f))
joined-split f n (suc d) =
    let e : n + suc d ≡ suc (n + d) = omega arith in
    ap (λ (k : ℕ). joined k f) e ∙ ap (λ l. l ++ f (n + d)) (joined-split f n d)
    ∙ append_assoc (joined n f) (joined d (λ k. f (n + k))) (f (n + d))

module _ {A : Type 0} (f : ℕ → List A) (n N c : ℕ) (few : n ≤ N) where
  abbrev others : List A
  others = joined (N - n) (λ k. f (n + k))

  split : joined N f ≡ joined n f ++ others
  split = let e : N ≡ n + (N - n) = omega arith in ap (λ (k : ℕ). joined k f) e ∙ joined-split f n (N - n)

  drop-late : (x : A) → length (joined n f) ≤ c → Mem x (drop c (joined N f)) → (k : ℕ) × (n ≤ k) × (k < N) × Mem x (f k)
  drop-late x h m =
      let q : c ≡ length (joined n f) + (c - length (joined n f)) = omega arith in
      let i = subst (λ (k : ℕ). Mem x (drop k (joined n f ++ others))) q (subst (λ l. Mem x (drop c l)) split m) in
      let j = rw (drop-append-add (joined n f) others (c - length (joined n f))) at i in
      let (k, a, b) = mem-joined (λ k. f (n + k)) (N - n) (drop-mem (c - length (joined n f)) others j) in
      (n + k, omega arith, omega arith, b)

  drop-early : (d : A) → c < length (joined n f) → Mem (get_or (joined n f) c d) (drop c (joined N f))
  drop-early d h = rw (split, drop-append-le c (joined n f) others (omega arith), drop-cons (joined n f) c d h) (mhere refl)

-- where the barrier before it is closed, the machine does not perform an action
module _ {A : Type 0} (p : Plan A) (c : ℕ → ℕ) where
  next-closed : (x y : A) (l : List A) → Mem y (rest p c) → p.phase y < p.phase x → goes_on p c (x ∷ l) ≡ []
  next-closed x y l m e = go (open? p c (p.phase x))
    where
      go : (w : Tested (Late p (p.phase x)) (rest p c)) → ⊎_elim (λ o. x ∷ []) (λ o. []) w ≡ []
      go (inl w) = absurd (omega (arith, w y m))
      go (inr w) = refl

module _ {A : Type 0} (none : A) (r : Rows A) (cs : List ℕ) where
  open r use {size, phases, phase, known}

  abbrev c : ℕ → ℕ
  c = column cs

  left_is : (b : ℕ) → b < size → left (plan r) c b ≡ drop (c b) (whole r b)
  left_is b l = ap (drop (c b)) (if_yes (dec_lt b size) (whole r b) [] l)

  -- what is left past the lists before phase n is of phase n or later
  left-late : (b n : ℕ) (x : A) → b < size → n ≤ phases → before (work r) n b ≤ c b → Mem x (left (plan r) c b) → n ≤ phase x
  left-late b n x l h u m =
      let (k, i, j, g) = drop-late (λ n. r.work n b) n phases (c b) h x (omega (arith, own-length (work r) b n)) (rw (left_is b l) at m) in
      omega (arith, (known k b x j l g).1)

  -- where a list before phase n is not used up, something of an earlier phase is left
  left-early : (b n : ℕ) → b < size → n ≤ phases → c b < before (work r) n b → (y : A) × Mem y (left (plan r) c b) × (phase y < n)
  left-early b n l h u =
      let f : ℕ → List A = λ n. r.work n b in
      let i : c b < length (joined n f) = omega (arith, own-length (work r) b n) in
      let (k, j, m) = mem-joined f n (nth-mem (joined n f) none (c b) i) in
      (get_or (joined n f) (c b) none, rw (left_is b l) (drop-early f n phases (c b) h none i), omega (arith, (known k b _ (omega arith) l m).1))

  -- the same action
  module _ (some-phase : 0 < phases) (b : ℕ) (proper : b < size) where
    next-is : action_in (next none (work r) b cs) ≡ goes_on (plan r) c (left (plan r) c b)
    next-is = go (next none (work r) b cs) (turn_is none (work r) some-phase b cs)
      where
        halted : (n : ℕ) → Come (work r) b cs n → (d : ℕ) × (d < size) × (c d < before (work r) n d) → (k : List A) → left (plan r) c b ≡ k
            → [] ≡ goes_on (plan r) c k
        halted n u h [] e = refl
        halted n u (d, i, h) (x ∷ k) e =
            let few : n ≤ phases = omega arith in
            let (y, m, p) = left-early d n i few h in
            sym (next-closed (plan r) c x y k (left-rest (plan r) c d m) (omega (arith, left-late b n x proper few u.used (rw e (mhere refl)))))

        go : (s : Said A) → Turn none (work r) b cs s → action_in s ≡ goes_on (plan r) c (left (plan r) c b)
        go s (does n u o h) =
            let x = get_or (r.work n b) (c b - before (work r) n b) none in
            let l = drop (suc (c b)) (whole r b) in
            let e : left (plan r) c b ≡ x ∷ l =
            left_is b proper ∙ drop-cons (whole r b) (c b) none (own-more u h) ∙ ap (λ (a : A). a ∷ l) (own-nth u h none) in
            sym (ap (goes_on (plan r) c) e ∙ next-open (plan r) c x l (λ v m. omega (arith, here, late v m)))
          where
            here : phase (get_or (r.work n b) (c b - before (work r) n b) none) ≡ n
            here = (known n b _ u.proper proper (nth-mem (r.work n b) none (c b - before (work r) n b) (omega arith))).1

            late : (v : A) → Mem v (rest (plan r) c) → n ≤ phase v
            late v m = let (a, i, j) = mem-joined (left (plan r) c) size m in left-late a n v i (omega arith) (o a i) j
        go s (halts n u z h) = halted n u h (left (plan r) c b) refl
        go s (stops u o) =
            sym (ap (goes_on (plan r) c) (left_is b proper ∙ drop_all (c b) (whole r b) (omega (arith, own-length (work r) b phases))))

module _ {A M : Type 0} (none : A) (r : Rows A) (run : A → M → M) (b : ℕ) (cs : List ℕ) (m : M) where
  abbrev left_by_lem : After A M
  left_by_lem = turn none (work r) run b cs m

  pub turn-next : 0 < r.phases → b < r.size → action_in left_by_lem.said ≡ goes_on (plan r) (column cs) (left (plan r) (column cs) b)
  turn-next some-phase proper = rw (turn-said none (work r) run b cs m) (next-is none r cs some-phase b proper)

  -- the same counts
  pub turn-counts : b < length cs → column left_by_lem.counts ≡ count (plan r) (column cs) b (action_in left_by_lem.said)
  unfolding turn
  turn-counts proper = go (next none (work r) b cs)
    where
      at : (k : ℕ) → Dec (k ≡ b) → column (counted cs b) k ≡ bump (plan r) (column cs) b k
      at k (yes e) = rw e (counted_same cs b proper ∙ sym (put_same (column cs) b (suc (column cs b))))
      at k (no n) = counted-other cs b k n ∙ sym (put_other (column cs) b k (suc (column cs b)) n)

      go : (s : Said A) → column (after run b cs m s).counts ≡ count (plan r) (column cs) b (action_in (after run b cs m s).said)
      go (refuses r) = refl
      go (performs x) = fun_ext λ k. at k (ℕ_discrete k b)
      go waits = refl
      go ends = refl

  -- and the action's effect
  pub turn-memory : left_by_lem.memory ≡ run_all run (action_in left_by_lem.said) m
  unfolding turn
  turn-memory = go (next none (work r) b cs)
    where
      go : (s : Said A) → (after run b cs m s).memory ≡ run_all run (action_in (after run b cs m s).said) m
      go (refuses r) = refl
      go (performs x) = refl
      go waits = refl
      go ends = refl
