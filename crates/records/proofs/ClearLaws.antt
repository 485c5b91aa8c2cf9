-- A record in which the tests find no ground is clear; and there is room for a clear record.
use Rattle.std.specs.Prelude.{ℕ, zero, suc, ◌≤◌, ◌<◌, ◌≡◌, refl, Bool, true, false, List, eqb, leb}
use native.Mathlib.Omega.{arith}
use borrow.Author.Tests.{ltb-false, leb-false, eqb-false, eqb-true, not-false}
use Rattle.records.specs.declared.Kind.{Kind}
use Rattle.records.specs.declared.Kind.TheVariants as kind
use Rattle.records.specs.declared.Record.{Record}
use Rattle.records.specs.declared.Record.TheVariants.{Unknown, Array, Loop, Read, Constant, Operation, End, Statement}
use Rattle.records.specs.declared.Summary.{Summary}
use Rattle.records.specs.Bytes.{byte, four, kind_of, body_length, record_of}
use Rattle.records.specs.Grounds.{◌if◌else◌, early, edge, fields}
use Rattle.records.specs.Clear.{span_of, Room, Within, Clear}

-- the table of lengths agrees with the kinds, and no body is longer than 11
pub span-kind : (b : ℕ) → body_length b ≡ span_of (kind_of b)
unfolding kind_of body_length
span-kind zero = refl
span-kind (suc zero) = refl
span-kind (suc (suc zero)) = refl
span-kind (suc (suc (suc zero))) = refl
span-kind (suc (suc (suc (suc zero)))) = refl
span-kind (suc (suc (suc (suc (suc zero))))) = refl
span-kind (suc (suc (suc (suc (suc (suc zero)))))) = refl
span-kind (suc (suc (suc (suc (suc (suc (suc zero))))))) = refl
span-kind (suc (suc (suc (suc (suc (suc (suc (suc n)))))))) = refl

span-max : (k : Kind) → span_of k ≤ 11
span-max kind.Unknown = omega arith
span-max kind.Array = omega arith
span-max kind.Loop = omega arith
span-max kind.Read = omega arith
span-max kind.Constant = omega arith
span-max kind.Operation = omega arith
span-max kind.End = omega arith
span-max kind.Statement = omega arith

pub length-max : (b : ℕ) → body_length b ≤ 11
length-max b = rw (span-kind b) (span-max (kind_of b))

-- a row of tests that finds no ground
pub nothing : (g : ℕ) (b : Bool) (r : ℕ) → (suc g if b else r) ≡ 0 → (b ≡ false) × (r ≡ 0)
nothing g true r e = absurd (omega (arith, e))
nothing g false r e = (refl, e)

module _ (t : Summary) where
  early-array : early kind.Array t ≡ 0 → (t.loops ≡ 0) × (t.arrays < 16)
  unfolding early
  early-array e =
      let p = nothing 1 _ _ e in
      let q = nothing 3 _ _ p.1 in
      let z : t.loops ≤ 0 = ltb-false _ _ p.0 in
      (omega arith, leb-false _ _ q.0)

  early-loop : early kind.Loop t ≡ 0 → (t.waiting ≡ 1) × (t.loops < 16)
  unfolding early
  early-loop e =
      let p = nothing 5 _ _ e in
      let q = nothing 3 _ _ p.1 in
      (eqb-true _ _ (not-false _ p.0), leb-false _ _ q.0)

  early-item : (2 if eqb t.loops 0 else 4 if leb 32 t.items else 0) ≡ 0 → (0 < t.loops) × (t.items < 32)
  early-item e =
      let p = nothing 1 _ _ e in
      let q = nothing 3 _ _ p.1 in
      let n : t.loops ≡ 0 → ⊥ = eqb-false _ _ p.0 in
      (omega arith, leb-false _ _ q.0)

  early-end : early kind.End t ≡ 0 → (0 < t.loops) × (t.waiting ≡ 1)
  unfolding early
  early-end e =
      let p = nothing 1 _ _ e in
      let q = nothing 5 _ _ p.1 in
      let n : t.loops ≡ 0 → ⊥ = eqb-false _ _ p.0 in
      (omega arith, eqb-true _ _ (not-false _ q.0))

early-statement : (t : Summary) → early kind.Statement t ≡ 0 → (0 < t.loops) × (t.waiting ≡ 1) × (t.statements < 4)
unfolding early
early-statement t e =
    let p = nothing 1 _ _ e in
    let q = nothing 5 _ _ p.1 in
    let r = nothing 3 _ _ q.1 in
    let n : t.loops ≡ 0 → ⊥ = eqb-false _ _ p.0 in
    (omega arith, eqb-true _ _ (not-false _ q.0), leb-false _ _ r.0)

edge-clear : (f l o n : ℕ) → edge f l o n ≡ 0 → Within f l o n
unfolding edge
edge-clear f l o n e =
    let p = nothing 6 _ _ e in
    let q = nothing 6 _ _ p.1 in
    (ltb-false _ _ p.0, leb-false _ _ q.0)

-- the tests find none of the grounds in a record with the fields of a body: it is clear
pub clear_of : (k : Kind) (s : List ℕ) (b : ℕ) (t : Summary) (ns : List ℕ) → early k t ≡ 0 → fields (record_of k s b) t ns ≡ 0
    → Clear (record_of k s b) t ns
unfolding early record_of fields
clear_of kind.Unknown s b t ns e f = absurd (omega (arith, e))
clear_of kind.Array s b t ns e f =
    let (l, a) = early-array t e in
    let p = nothing 2 _ _ f in
    let q = nothing 2 _ _ p.1 in
    let r = nothing 3 _ _ q.1 in
    let z : four s b ≡ 0 → ⊥ = eqb-false _ _ p.0 in
    (l, a, omega arith, ltb-false _ _ q.0, ltb-false _ _ r.0)
clear_of kind.Loop s b t ns e f =
    let (w, l) = early-loop t e in
    let p = nothing 2 _ _ f in
    let q = nothing 2 _ _ p.1 in
    let r = nothing 4 _ _ q.1 in
    let u = nothing 2 _ _ r.1 in
    (w, l, ltb-false _ _ p.0, ltb-false _ _ q.0, leb-false _ _ r.0, ltb-false _ _ u.0, edge-clear _ _ _ _ u.1)
clear_of kind.Read s b t ns e f =
    let (l, i) = early-item t e in
    let p = nothing 4 _ _ f in
    let q = nothing 2 _ _ p.1 in
    let r = nothing 5 _ _ q.1 in
    (l, i, leb-false _ _ p.0, ltb-false _ _ q.0, leb-false _ _ r.0, edge-clear _ _ _ _ r.1)
clear_of kind.Constant s b t ns e f =
    let (l, i) = early-item t e in
    let p = nothing 5 _ _ f in
    (l, i, leb-false _ _ p.0)
clear_of kind.Operation s b t ns e f =
    let (l, i) = early-item t e in
    let p = nothing 2 _ _ f in
    let q = nothing 2 _ _ p.1 in
    let r = nothing 5 _ _ q.1 in
    let z : byte s b ≡ 0 → ⊥ = eqb-false _ _ p.0 in
    (l, i, omega arith, ltb-false _ _ q.0, ltb-false _ _ r.0)
clear_of kind.End s b t ns e f = early-end t e
clear_of kind.Statement s b t ns e f =
    let (l, w, n) = early-statement t e in
    let p = nothing 4 _ _ f in
    let q = nothing 2 _ _ p.1 in
    (l, w, n, leb-false _ _ p.0, ltb-false _ _ q.0, edge-clear _ _ _ _ q.1)

pub clear_room : (r : Record) (t : Summary) (ns : List ℕ) → Clear r t ns → Room r t
clear_room Unknown t ns c = tt
clear_room (Array n) t ns c = (c.1, c.4)
clear_room (Loop f l q o) t ns c = c.1
clear_room (Read q o) t ns c = (c.1, c.4)
clear_room (Constant n) t ns c = (c.1, c.2)
clear_room (Operation o) t ns c = (c.1, c.4)
clear_room End t ns c = tt
clear_room (Statement q o) t ns c = c.2
