-- The counts that rows of calls reach are those that ground 15 does not refuse, and a turn from such counts leaves such counts. What a turn is.
use Prim.Native.Nat.{ℕ, zero, suc, ◌-◌, ◌≤◌, ◌<◌}
use Rattle.std.proofs.Common.{arith, subst, ◌∙◌, inl, inr, ⊎_elim, length-set, get_or-set_same, get_or-set_other}
use Rattle.std.proofs.Math.Decide.{ℕ_discrete, dec_lt, dec_le}
use Rattle.std.specs.Prelude.{◌≡◌, Bool, true, ◌&&◌, ◌⊎◌, ◌≢◌, List, length, get_or}
use Rattle.std.proofs.Math.Path.{refl}
use Rattle.std.proofs.Math.Bool.{false}
use Rattle.std.proofs.Math.Dec.{ltb}
use borrow.Author.Tests.{ltb-true, ltb-false, lt-ltb, le-ltb, le-leb, lt-leb}
use Rattle.blocks.specs.Sums.{column, some}
use Rattle.blocks.specs.SumLaws.{neither, total-up, some-none, some-which, some-each}
use Rattle.turns.specs.Turn.{Work, Said, performs, waits, ends, before, closed, come_to, phase_of, wrong_count, wrong_state}
use Rattle.turns.specs.Turn.{next, counted, after, turn, stepped}
use Rattle.turns.specs.Row.{none_done}
use Rattle.turns.specs.RowLaws.{none_done_lem}
use Rattle.turns.specs.Reachable.{Opened, Reachable}

-- one more of processor b, and of no other
module _ (cs : List ℕ) (b : ℕ) where
  pub counted_same : b < length cs → column (counted cs b) b ≡ suc (column cs b)
  counted_same l = get_or-set_same cs b _ 0 l

  pub counted-other : (k : ℕ) → k ≢ b → column (counted cs b) k ≡ column cs k
  counted-other k n = get_or-set_other cs b k _ 0 n

module _ {A : Type 0} (w : Work A) where
  open w use {processors, phases, list}

  -- later phases have more before them
  pub before-up : (m n b : ℕ) → m ≤ n → before w m b ≤ before w n b
  before-up m n b l = total-up m n (λ k. length (list k b)) l

  -- what is used up is no later than what is not
  pub used-first : (k n b c : ℕ) → before w k b ≤ c → c < before w (suc n) b → k ≤ n
  used-first k n b c u h = go (dec_le k n)
    where
      go : Dec (k ≤ n) → k ≤ n
      go (yes l) = l
      go (no l) = absurd (omega (arith, before-up (suc n) k b (omega arith)))

  module _ (cs : List ℕ) where
    pub closed-opened : (n : ℕ) → closed w cs n ≡ false → Opened w cs n
    unfolding closed
    closed-opened n e b l = ltb-false _ _ (some-each processors b (λ k. ltb (column cs k) (before w n k)) e l)

    pub opened-closed : (n : ℕ) → Opened w cs n → closed w cs n ≡ false
    unfolding closed
    opened-closed n o = some-none processors (λ b. ltb (column cs b) (before w n b)) (λ b l. le-ltb _ _ (o b l))

    pub closed-which : (n : ℕ) → closed w cs n ≡ true → (d : ℕ) × (d < processors) × (column cs d < before w n d)
    unfolding closed
    closed-which n e = let (d, l, h) = some-which processors (λ k. ltb (column cs k) (before w n k)) e in (d, l, ltb-true _ _ h)

    -- GROUND 15 refuses all others
    pub reachable-right : Reachable w cs → wrong_state w cs ≡ false
    unfolding wrong_state wrong_count
    reachable-right r = some-none 64 (wrong_count w cs) (λ b l. go b l (dec_lt b processors))
      where
        early : (n b : ℕ) → n < phases → b < processors → Dec (before w n b < column cs b) → (ltb (before w n b) (column cs b) && closed w cs n) ≡ false
        early n b l i (yes h) = rw (lt-ltb (before w n b) (column cs b) h) (opened-closed n (r.barrier n l b i h))
        early n b l i (no h) = rw (le-ltb (before w n b) (column cs b) (omega arith))

        go : (b : ℕ) → b < 64 → Dec (b < processors) → wrong_count w cs b ≡ false
        go b l (yes i) =
            rw (lt-ltb b processors i, le-ltb (before w phases b) (column cs b) (omega (arith, r.below b i)))
            (some-none phases (λ n. ltb (before w n b) (column cs b) && closed w cs n) (λ n k. early n b k i (dec_lt (before w n b) (column cs b))))
        go b l (no i) = rw (le-ltb b processors (omega arith)) (le-ltb 0 (column cs b) (omega (arith, r.beyond b l (omega arith))))

    pub right-reachable : length cs ≡ 64 → processors ≤ 64 → wrong_state w cs ≡ false → Reachable w cs
    unfolding wrong_state wrong_count
    right-reachable size few e = record {
      size = size;
      below = λ b l. ltb-false _ _ (inside b l).0;
      barrier = λ n k b l h.
          let q = some-each phases n (λ n. ltb (before w n b) (column cs b) && closed w cs n) (inside b l).1 k in
          closed-opened n (rw (lt-ltb (before w n b) (column cs b) h) at q);
      beyond = λ b l i. let f = rw (le-ltb b processors i) at (each b l) in omega (arith, ltb-false 0 (column cs b) f);
    }
      where
        each : (b : ℕ) → b < 64 → wrong_count w cs b ≡ false
        each b l = some-each 64 b (wrong_count w cs) e l

        inside : (b : ℕ) → b < processors
            → (ltb (before w phases b) (column cs b) ≡ false) × (some phases (λ n. ltb (before w n b) (column cs b) && closed w cs n) ≡ false)
        inside b l =
            neither (ltb (before w phases b) (column cs b)) (some phases (λ n. ltb (before w n b) (column cs b) && closed w cs n))
            (rw (lt-ltb b processors l) at (each b (omega arith)))

  -- the first call's counts
  pub none-reachable : Reachable w none_done
  none-reachable = record {
    size = refl;
    below = λ b l. omega (arith, none_done_lem b);
    barrier = λ n k b l h. absurd (omega (arith, none_done_lem b));
    beyond = λ b l i. none_done_lem b;
  }

  -- one more of processor b, who has one more, and is past the barriers before it
  pub counted-reachable : processors ≤ 64 → (cs : List ℕ) → Reachable w cs → (b : ℕ) → b < processors → column cs b < before w phases b
      → ((n : ℕ) → before w n b ≤ column cs b → Opened w cs n) → Reachable w (counted cs b)
  counted-reachable few cs r b proper more over = record {
    size = length-set cs b (suc (column cs b)) ∙ r.size;
    below = λ k l. below k l (ℕ_discrete k b);
    barrier = λ n j k l h i z. omega (arith, opened n j k l h (ℕ_discrete k b) i z, grows i (ℕ_discrete i b));
    beyond = λ k l i. omega (arith, counted-other cs b k (λ e. omega (arith, e)), r.beyond k l i);
  }
    where
      same : column (counted cs b) b ≡ suc (column cs b)
      same = counted_same cs b (omega (arith, r.size))

      grows : (k : ℕ) → Dec (k ≡ b) → column cs k ≤ column (counted cs b) k
      grows k (yes e) = rw e (omega (arith, same))
      grows k (no n) = omega (arith, counted-other cs b k n)

      below : (k : ℕ) → k < processors → Dec (k ≡ b) → column (counted cs b) k ≤ before w phases k
      below k l (yes e) = rw e (omega (arith, same))
      below k l (no n) = omega (arith, counted-other cs b k n, r.below k l)

      opened : (n : ℕ) → n < phases → (k : ℕ) → k < processors → before w n k < column (counted cs b) k → Dec (k ≡ b) → Opened w cs n
      opened n j k l h (yes e) = over n (omega (arith, same, subst (λ (i : ℕ). before w n i < column (counted cs b) i) e h))
      opened n j k l h (no z) = r.barrier n j k l (omega (arith, counted-other cs b k z))

  -- the phase that processor b has come to, with n actions done: it is one of them, what is before it is used up, and it is the last one or
  -- has something left
  abbrev Comes : ℕ → ℕ → ℕ → ℕ → Type 0
  Comes b n m k = (k ≤ m) × (before w k b ≤ n) × ((k ≡ m) ⊎ (n < before w (suc k) b))

  comes : (b n m : ℕ) → Comes b n m (come_to w b n m)
  comes b n zero = (omega arith, omega arith, inl refl)
  comes b n (suc m) = go (dec_le (before w (suc m) b) n) (comes b n m)
    where
      go : Dec (before w (suc m) b ≤ n) → Comes b n m (come_to w b n m) → Comes b n (suc m) (come_to w b n (suc m))
      go (yes l) ih = rw (le-leb (before w (suc m) b) n l) (omega arith, l, inl refl)
      go (no l) (i, j, h) =
          let s : n < before w (suc m) b = omega arith in
          rw (lt-leb (before w (suc m) b) n s) (omega arith, j, ⊎_elim (λ (e : come_to w b n m ≡ m). inr (rw e s)) inr h)

  -- processor b has come to phase n
  pub record Come (b : ℕ) (cs : List ℕ) (n : ℕ) : Type 0 where
    pub phase : n ≡ phase_of w b (column cs b)
    pub proper : n < phases
    pub used : before w n b ≤ column cs b

-- A TURN is one of three: it does the next action of its phase, it is halted before its phase, or it has stopped
module _ {A : Type 0} (none : A) (w : Work A) where
  open w use {processors, phases, list}

  pub data Turn (b : ℕ) (cs : List ℕ) : Said A → Type 0 where
    does : (n : ℕ) → Come w b cs n → Opened w cs n → column cs b < before w (suc n) b
        → Turn b cs (performs (get_or (list n b) (column cs b - before w n b) none))
    halts : (n : ℕ) → Come w b cs n → 0 < n → (d : ℕ) × (d < processors) × (column cs d < before w n d) → Turn b cs waits
    stops : before w phases b ≤ column cs b → Opened w cs (phases - 1) → Turn b cs ends

  module _ (some-phase : 0 < phases) where
    pub turn_is : (b : ℕ) (cs : List ℕ) → Turn b cs (next none w b cs)
    unfolding next
    turn_is b cs = go (closed w cs n) refl (dec_lt (column cs b) (before w (suc n) b))
      where
        n : ℕ
        n = phase_of w b (column cs b)

        come : Come w b cs n
        come = record {
          phase = refl;
          proper = omega (arith, (comes w b (column cs b) (phases - 1)).0);
          used = (comes w b (column cs b) (phases - 1)).1;
        }

        last : (n ≡ phases - 1) ⊎ (column cs b < before w (suc n) b) → before w (suc n) b ≤ column cs b → n ≡ phases - 1
        last (inl e) l = e
        last (inr h) l = absurd (omega arith)

        later : (d : ℕ) × (d < processors) × (column cs d < before w n d) → 0 < n
        later (d, l, h) = positive n h
          where
            positive : (k : ℕ) → column cs d < before w k d → 0 < k
            positive zero h = absurd (omega arith)
            positive (suc k) h = omega arith

        go : (x : Bool) → closed w cs n ≡ x → Dec (column cs b < before w (suc n) b) → Turn b cs (next none w b cs)
        go true q d = let h = closed-which w cs n q in rw q (halts n come (later h) h)
        go false q (yes d) = rw (q, lt-ltb (column cs b) (before w (suc n) b) d) (does n come (closed-opened w cs n q) d)
        go false q (no d) =
            let h : before w (suc n) b ≤ column cs b = omega arith in
            let e = last (comes w b (column cs b) (phases - 1)).2 h in
            let f : suc n ≡ phases = omega arith in
            rw (q, le-ltb (column cs b) (before w (suc n) b) h)
            (stops (subst (λ (m : ℕ). before w m b ≤ column cs b) f h) (subst (Opened w cs) e (closed-opened w cs n q)))

    pub turn-reachable : {M : Type 0} (run : A → M → M) → processors ≤ 64 → (cs : List ℕ) → Reachable w cs → (b : ℕ) → b < processors → (m : M)
        → Reachable w (turn none w run b cs m).counts
    unfolding turn
    turn-reachable run few cs r b l m = go (next none w b cs) (turn_is b cs)
      where
        go : (s : Said A) → Turn b cs s → Reachable w (after run b cs m s).counts
        go s (does n c o h) =
            counted-reachable w few cs r b l (omega (arith, before-up w (suc n) phases b c.proper))
            (λ k i d j. omega (arith, o d j, before-up w k n d (used-first w k n b (column cs b) i h)))
        go s (halts n c z h) = r
        go s (stops u o) = r

  -- a step from such counts is a turn
  pub stepped-turn : {M : Type 0} (run : A → M → M) (b : ℕ) (cs : List ℕ) (m : M) → Reachable w cs → stepped none w run b cs m ≡ turn none w run b cs m
  unfolding stepped
  stepped-turn run b cs m r = rw (reachable-right w cs r)
