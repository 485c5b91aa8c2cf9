-- TWO PHASES, a fused and a peeled list for each processor: a turn, and ground 15's counts, as docs/TABLE.md says them.
use Rattle.std.specs.Prelude.{ℕ, ◌+◌, ◌-◌, ◌<◌, ◌≡◌, Bool, true, false, cond, ◌&&◌, ◌||◌, List, get_or}
use native.Mathlib.Omega.{arith}
use Rattle.std.proofs.Math.Decide.{dec_lt}
use Rattle.std.proofs.Math.Path.{refl}
use Rattle.std.proofs.Common.{ap}
use Rattle.std.proofs.Math.Bool.{and-false}
use Rattle.std.proofs.Math.Dec.{ltb}
use borrow.Author.Tests.{lt-ltb, le-ltb, le-leb, lt-leb}
use Rattle.std.proofs.Math.ListN.{length}
use Rattle.blocks.specs.Sums.{column, some}
use Rattle.blocks.specs.SumLaws.{some-none, some_same}
use Rattle.turns.specs.Turn.{Work, Said, performs, waits, ends, closed, next, wrong_count}

module _ {A : Type 0} (w : Work A) (counts : List ℕ) where
  open w use {processors, phases, list}

  -- the barrier before the first phase is never closed
  pub closed-first : closed w counts 0 ≡ false
  unfolding closed
  closed-first = some-none processors (λ b. ltb (column counts b) 0) (λ b l. le-ltb (column counts b) 0 (omega arith))

  -- the one before the second, while some fused list is not used up
  pub closed-second : closed w counts 1 ≡ some processors (λ b. ltb (column counts b) (length (list 0 b)))
  unfolding closed
  closed-second = some_same processors _ _ (λ b l. let e : 0 + length (list 0 b) ≡ length (list 0 b) = omega arith in rw e)

module _ {A : Type 0} (w : Work A) (counts : List ℕ) (b : ℕ) where
  open w use {processors, phases, list}

  abbrev fused : List A
  fused = list 0 b

  abbrev peeled : List A
  peeled = list 1 b

  abbrev done : ℕ
  done = column counts b

  first : 0 + length fused ≡ length fused
  first = omega arith

  -- 15: a count above its lists, a peeled step before the barrier, or a count above 0 for a processor that is not there
  abbrev pub two_wrong : Bool
  two_wrong = cond (ltb b processors) (ltb (length fused + length peeled) done || (ltb (length fused) done && closed w counts 1)) (ltb 0 done)

  pub two-wrong : phases ≡ 2 → wrong_count w counts b ≡ two_wrong
  unfolding wrong_count
  two-wrong two = rw (two, first, closed-first w counts, and-false (ltb 0 done))

  -- the next of the fused list; where that is used up, waiting till the barrier opens; then the next of the peeled list, or finished
  abbrev pub two_next : A → Said A
  two_next none =
      let past = done - length fused in
      cond (ltb done (length fused)) (performs (get_or fused done none))
      (cond (closed w counts 1) waits (cond (ltb past (length peeled)) (performs (get_or peeled past none)) ends))

  pub two-next : phases ≡ 2 → (none : A) → next none w b counts ≡ two_next none
  unfolding next
  two-next two none = go (dec_lt done (length fused)) (dec_lt (done - length fused) (length peeled)) (closed w counts 1) refl
    where
      one : phases - 1 ≡ 1
      one = omega arith

      nought : done - 0 ≡ done
      nought = omega arith

      go : Dec (done < length fused) → Dec (done - length fused < length peeled) → (x : Bool) → closed w counts 1 ≡ x → next none w b counts ≡ two_next none
      go (yes l) d x q = rw (one, first, lt-leb (length fused) done l, closed-first w counts, first, lt-ltb done (length fused) l, nought)
      go (no l) d true q = rw (one, first, le-leb (length fused) done (omega arith), q, le-ltb done (length fused) (omega arith))
      go (no l) (yes d) false q =
          rw (
            one,
            first,
            le-leb (length fused) done (omega arith),
            q,
            le-ltb done (length fused) (omega arith),
            lt-ltb done (0 + length fused + length peeled) (omega arith),
            lt-ltb (done - length fused) (length peeled) d,
          )
          (ap (λ (n : ℕ). performs (get_or peeled (done - n) none)) first)
      go (no l) (no d) false q =
          rw (
            one,
            first,
            le-leb (length fused) done (omega arith),
            q,
            le-ltb done (length fused) (omega arith),
            le-ltb done (0 + length fused + length peeled) (omega arith),
            le-ltb (done - length fused) (length peeled) (omega arith),
          )
