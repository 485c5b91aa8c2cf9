-- LAWS: what the code computes by numbers is what turns say, where the numbers are where the phases end.
use Prim.Native.Nat.{ℕ, zero, suc, ◌-◌, ◌≤◌, ◌<◌}
use Rattle.std.proofs.Common.{arith, sym, ap, subst, ◌∙◌, lt-ltb, le-ltb}
use Rattle.std.proofs.Math.Decide.{ℕ_discrete, dec_lt, dec_le}
use Rattle.std.specs.Prelude.{◌≡◌, refl, Bool, true, false, cond, ◌&&◌, ◌||◌, List, [], length, get_or, ltb, replicate}
use Rattle.std.proofs.Math.Bool.{and-false}
use Rattle.std.proofs.lemmas.Bool.{false≢true}
use Rattle.blocks.specs.Sums.{column, some}
use Rattle.blocks.specs.SumLaws.{total-same, some-here, some-none, some_same}
use Rattle.turns.specs.Turn.{Work, Said, before, closed, come_to, phase_of, wrong_count, wrong_state, next}
use Rattle.turns.specs.TwoPhases.{closed-first}
use Rattle.turns.specs.Row.{performing, listed}
use Rattle.turns.proofs.Reach.{before-up, closed-opened, opened-closed, Turn, does, halts, stops, turn_is}
use Rattle.turns.specs.Reachable.{Opened}
use Rattle.barriers.specs.Code.{before_by, come_by, phase_by, closed_by, open_by, last_open_by, beyond_by, wrong_by, ready_by, listed_by, EndsFit, Rows, Ended}

or_right : (x y : Bool) → y ≡ true → (x || y) ≡ true
or_right true y e = refl
or_right false y e = e

-- where nothing is written yet
zero-row : (m b : ℕ) → column (replicate m 0) b ≤ 3200000
zero-row zero b = omega arith
zero-row (suc m) zero = omega arith
zero-row (suc m) (suc b) = zero-row m b

pub zeros-small : (n m : ℕ) → EndsFit (replicate n (replicate m 0))
zeros-small zero m k b = omega arith
zeros-small (suc n) m zero b = zero-row m b
zeros-small (suc n) m (suc k) b = zeros-small n m k b

pub zeros-rows : Rows (replicate 3 (replicate 64 0))
zeros-rows = record { rows = refl; each = each }
  where
    each : (n : ℕ) → n < 3 → length (get_or (replicate 3 (replicate {A = ℕ} 64 0)) n []) ≡ 64
    each zero l = refl
    each (suc zero) l = refl
    each (suc (suc zero)) l = refl
    each (suc (suc (suc n))) l = absurd (omega arith)

-- m is the last of the phases up to n whose barrier is open
pub record Last {A : Type 0} (w : Work A) (counts : List ℕ) (n m : ℕ) : Type 0 where
  pub among : m ≤ n
  pub opened : Opened w counts m
  pub later : (k : ℕ) → m < k → k ≤ n → closed w counts k ≡ true

module _ {A : Type 0} {w : Work A} {ends : List (List ℕ)} (h : Ended w ends) where
  open w use {processors, phases}

  pub before-is : (n b : ℕ) → n ≤ phases → b < processors → before_by ends n b ≡ before w n b
  before-is zero b l i = refl
  before-is (suc n) b l i = h.is n b (omega arith) i

  pub come-is : (b done n : ℕ) → b < processors → n ≤ phases → come_by ends b done n ≡ come_to w b done n
  come-is b done zero i l = refl
  come-is b done (suc n) i l = rw (before-is (suc n) b l i, come-is b done n i (omega arith))

  pub phase-is : (b done : ℕ) → b < processors → phase_by ends phases b done ≡ phase_of w b done
  phase-is b done i = come-is b done (phases - 1) i (omega arith)

  pub listed-is : listed_by processors ends phases ≡ listed w
  listed-is = total-same processors (before_by ends phases) (before w phases) (λ b i. before-is phases b (omega arith) i)

  module _ (counts : List ℕ) where
    pub closed_is : (n : ℕ) → n ≤ phases → closed_by processors ends counts n ≡ closed w counts n
    unfolding closed
    closed_is n l = some_same processors _ _ (λ b i. rw (before-is n b l i))

    open_is : (n : ℕ) → n ≤ phases → Last w counts n (open_by processors ends counts n)
    open_is zero l = record {
      among = omega arith;
      opened = closed-opened w counts 0 (closed-first w counts);
      later = λ k i j. absurd (omega arith);
    }
    open_is (suc n) l = go (closed_by processors ends counts (suc n)) refl (open_is n (omega arith))
      where
        shut : (k : ℕ) → closed w counts (suc n) ≡ true → (k ≤ n → closed w counts k ≡ true) → k ≤ suc n → Dec (k ≡ suc n) → closed w counts k ≡ true
        shut k q ih j (yes e) = ap (closed w counts) e ∙ q
        shut k q ih j (no e) = ih (omega arith)

        go : (x : Bool) → closed_by processors ends counts (suc n) ≡ x → Last w counts n (open_by processors ends counts n)
            → Last w counts (suc n) (cond x (open_by processors ends counts n) (suc n))
        go true q ih = record {
          among = omega (arith, ih.among);
          opened = ih.opened;
          later = λ k i j. shut k (sym (closed_is (suc n) l) ∙ q) (ih.later k i) j (ℕ_discrete k (suc n));
        }
        go false q ih = record {
          among = omega arith;
          opened = closed-opened w counts (suc n) (sym (closed_is (suc n) l) ∙ q);
          later = λ k i j. absurd (omega arith);
        }

    abbrev m : ℕ
    m = last_open_by processors ends counts phases

    pub last-open : Last w counts (phases - 1) m
    last-open = open_is (phases - 1) (omega arith)

    proper : suc m ≤ phases
    proper = omega (arith, last-open.among, h.some-phase)

    -- up to it every barrier is open
    opened-before : (n : ℕ) → n ≤ m → Opened w counts n
    opened-before n l b i = omega (arith, before-up w n m b l, last-open.opened b i)

    -- past it none is
    open-among : (n : ℕ) → n < phases → Opened w counts n → n ≤ m
    open-among n l o = go (dec_le n m)
      where
        go : Dec (n ≤ m) → n ≤ m
        go (yes i) = i
        go (no i) = absurd (false≢true (sym (opened-closed w counts n o) ∙ last-open.later n (omega arith) (omega arith)))

    next-is : (b : ℕ) → b < processors → before_by ends (suc m) b ≡ before w (suc m) b
    next-is b i = before-is (suc m) b proper i

    wrong-at : (b : ℕ) → beyond_by processors ends counts m b ≡ wrong_count w counts b
    unfolding wrong_count
    wrong-at b = go (dec_lt b processors)
      where
        c : ℕ
        c = column counts b

        early : ℕ → Bool
        early n = ltb (before w n b) c && closed w counts n

        above : before w (suc m) b < c → Dec (suc m ≡ phases) → (ltb (before w phases b) c || some phases early) ≡ true
        above l (yes e) = rw (lt-ltb (before w phases b) c (subst (λ (n : ℕ). before w n b < c) e l))
        above l (no e) =
            let i : suc m < phases = omega (arith, proper) in
            let q : early (suc m) ≡ true = rw (lt-ltb (before w (suc m) b) c l) (last-open.later (suc m) (omega arith) (omega arith)) in
            or_right (ltb (before w phases b) c) (some phases early) (some-here phases (suc m) early i q)

        late : (n : ℕ) → c ≤ before w (suc m) b → Dec (n ≤ m) → early n ≡ false
        late n l (yes i) = rw (opened-closed w counts n (opened-before n i)) (and-false (ltb (before w n b) c))
        late n l (no i) = rw (le-ltb (before w n b) c (omega (arith, before-up w (suc m) n b (omega arith))))

        inside : Dec (before w (suc m) b < c) → ltb (before w (suc m) b) c ≡ (ltb (before w phases b) c || some phases early)
        inside (yes l) = lt-ltb (before w (suc m) b) c l ∙ sym (above l (ℕ_discrete (suc m) phases))
        inside (no l) =
            let l : c ≤ before w (suc m) b = omega arith in
            let up = before-up w (suc m) phases b proper in
            rw (le-ltb (before w (suc m) b) c l, le-ltb (before w phases b) c (omega arith), some-none phases early (λ n i. late n l (dec_le n m)))

        go : Dec (b < processors) → beyond_by processors ends counts m b ≡ wrong_count w counts b
        go (yes i) = rw (lt-ltb b processors i, next-is b i) (inside (dec_lt (before w (suc m) b) c))
        go (no i) = rw (le-ltb b processors (omega arith))

    pub wrong-by-open : wrong_by processors ends counts phases ≡ wrong_state w counts
    unfolding wrong_state
    wrong-by-open = some_same 64 _ _ (λ b i. wrong-at b)

    pub ready-is : (none : A) (b : ℕ) → b < processors → ready_by processors ends counts phases b ≡ performing (next none w b counts)
    ready-is none b i = rw (next-is b i) (go (next none w b counts) (turn_is none w h.some-phase b counts))
      where
        c : ℕ
        c = column counts b

        go : (s : Said A) → Turn none w b counts s → ltb c (before w (suc m) b) ≡ performing s
        go s (does n t o l) = lt-ltb c (before w (suc m) b) (omega (arith, before-up w (suc n) (suc m) b (omega (arith, open-among n t.proper o))))
        go s (halts n t z (d, j, l)) = le-ltb c (before w (suc m) b) (omega (arith, t.used, before-up w (suc m) n b (past (dec_le n m))))
          where
            past : Dec (n ≤ m) → m < n
            past (yes k) = absurd (omega (arith, opened-before n k d j))
            past (no k) = omega arith
        go s (stops u o) = le-ltb c (before w (suc m) b) (omega (arith, before-up w (suc m) phases b proper))
