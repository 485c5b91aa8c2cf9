-- A whole record that is clear meets no ground: the converse of Clear and Outcome.
use Rattle.std.specs.Prelude.{ℕ, ◌+◌, ◌≤◌, ◌<◌, ◌≡◌, List, get_or, eqb, leb}
use Rattle.std.proofs.Common.{arith, sym, subst, ◌∙◌}
use Rattle.std.proofs.Math.Path.{refl, ap}
use Rattle.std.proofs.Math.ListN.{length}
use borrow.Author.Tests.{le-ltb, lt-leb, ne_eqb, eq-eqb}
use Rattle.records.specs.declared.Kind.{Kind}
use Rattle.records.specs.declared.Kind.TheVariants as kind
use Rattle.records.specs.declared.Record.{Record}
use Rattle.records.specs.declared.Record.TheVariants.{Unknown, Array, Loop, Read, Constant, Operation, End, Statement}
use Rattle.records.specs.declared.Summary.{Summary}
use Rattle.records.specs.declared.Tested.TheVariants.{Passed, Ended}
use Rattle.records.specs.Bytes.{byte, kind_of, body_length, record_of, record_at}
use Rattle.records.specs.Grounds.{◌if◌else◌, early, edge, fields, ground, passed, tested}
use Rattle.records.specs.Clear.{Clear, Within}
use Rattle.records.proofs.Outcome.{Whole}

within-edge : (f l o n : ℕ) → Within f l o n → edge f l o n ≡ 0
unfolding edge
within-edge f l o n (h, m) = rw (le-ltb _ _ h, lt-leb _ _ m)

module _ (t : Summary) (ns : List ℕ) where
  early-item : 0 < t.loops → t.items < 32 → (2 if eqb t.loops 0 else 4 if leb 32 t.items else 0) ≡ 0
  early-item h l = rw (ne_eqb t.loops 0 (λ e. omega arith), lt-leb _ _ l)

  -- no ground by the kind alone
  clear-early : (k : Kind) (s : List ℕ) (b : ℕ) → Clear (record_of k s b) t ns → early k t ≡ 0
  unfolding early record_of
  clear-early kind.Unknown s b c = absurd c
  clear-early kind.Array s b c = let z : t.loops ≤ 0 = omega (arith, c.0) in rw (le-ltb _ _ z, lt-leb _ _ c.1)
  clear-early kind.Loop s b c = rw (eq-eqb t.waiting 1 c.0, lt-leb _ _ c.1)
  clear-early kind.Read s b c = early-item c.0 c.1
  clear-early kind.Constant s b c = early-item c.0 c.1
  clear-early kind.Operation s b c = early-item c.0 c.1
  clear-early kind.End s b c = rw (ne_eqb t.loops 0 (λ e. omega (arith, c.0)), eq-eqb t.waiting 1 c.1)
  clear-early kind.Statement s b c =
      rw (ne_eqb t.loops 0 (λ e. omega (arith, c.0)), eq-eqb t.waiting 1 c.1, lt-leb _ _ c.2)

  -- none by the fields
  clear-fields : (r : Record) → Clear r t ns → fields r t ns ≡ 0
  unfolding fields
  clear-fields Unknown c = refl
  clear-fields (Array n) c = rw (ne_eqb n 0 (λ e. omega (arith, c.2)), le-ltb _ _ c.3, le-ltb _ _ c.4)
  clear-fields (Loop f l q o) c =
      rw (le-ltb _ _ c.2, le-ltb _ _ c.3, lt-leb _ _ c.4, le-ltb _ _ c.5) (within-edge f l o (get_or ns q 0) c.6)
  clear-fields (Read q o) c =
      rw (lt-leb _ _ c.2, le-ltb _ _ c.3, lt-leb _ _ c.4) (within-edge t.first t.last o (get_or ns q 0) c.5)
  clear-fields (Constant n) c = rw (lt-leb _ _ c.2)
  clear-fields (Operation o) c = rw (ne_eqb o 0 (λ e. omega (arith, c.2)), le-ltb _ _ c.3, le-ltb _ _ c.4)
  clear-fields End c = refl
  clear-fields (Statement q o) c = rw (lt-leb _ _ c.3, le-ltb _ _ c.4) (within-edge t.first t.last o (get_or ns q 0) c.5)

  module _ (s : List ℕ) (at : ℕ) (r : Record) (n : ℕ) (w : Whole s at t ns r n) where
    clear-here : Clear (record_at s at) t ns
    clear-here = subst (λ (x : Record). Clear x t ns) (sym w.is) w.clear

    pub whole-ground : ground s at t ns ≡ 0
    unfolding ground record_at
    whole-ground =
        let fits : at + 1 + body_length (byte s at) ≤ length s = omega (arith, w.next, w.fits) in
        rw (lt-leb _ _ w.there, clear-early (kind_of (byte s at)) s (at + 1) clear-here, le-ltb _ _ fits)
        (clear-fields (record_at s at) clear-here)

    whole-tested : tested s at t ns ≡ passed r n
    unfolding tested
    whole-tested = rw (whole-ground, w.is, ← w.next)

    passed-other : (x : Record) → Clear x t ns → (x ≡ End → ⊥) → passed x n ≡ Passed x n
    unfolding passed
    passed-other Unknown c e = absurd c
    passed-other (Array m) c e = refl
    passed-other (Loop f l q o) c e = refl
    passed-other (Read q o) c e = refl
    passed-other (Constant m) c e = refl
    passed-other (Operation o) c e = refl
    passed-other End c e = absurd (e refl)
    passed-other (Statement q o) c e = refl

    pub whole-passed : (r ≡ End → ⊥) → tested s at t ns ≡ Passed r n
    whole-passed e = whole-tested ∙ passed-other r w.clear e

    pub whole-ended : r ≡ End → tested s at t ns ≡ Ended n
    unfolding passed
    whole-ended e = whole-tested ∙ ap (λ (x : Record). passed x n) e
