-- How many bytes the records of a table take: a table ends within 2,353 bytes, a refusal's place is at most 2,361, and a record
-- that is looked at ends within 2,364.
use Rattle.std.specs.Prelude.{ℕ, ◌+◌, ◌*◌, ◌-◌, ◌≤◌, ◌<◌, ◌≡◌, refl, Bool, true, false, cond, not, List, eqb, leb, ltb, length}
use Rattle.std.proofs.Common.{arith, leb-false, eqb-true}
use Rattle.std.proofs.lemmas.Bool.{not-false}
use Rattle.refusals.specs.declared.Refusal.{Refusal}
use Rattle.records.specs.declared.Kind.{Kind}
use Rattle.records.specs.declared.Kind.TheVariants as kind
use Rattle.records.specs.declared.Record.{Record}
use Rattle.records.specs.declared.Record.TheVariants.{End}
use Rattle.records.specs.declared.Summary.{Summary}
use Rattle.records.specs.Bytes.{byte, kind_of, record_of, record_at}
use Rattle.records.specs.History.{summary, lengths, advanced, blank, with_array, with_loop, with_item, with_statement, operands}
use Rattle.records.specs.Grounds.{◌if◌else◌, early}
use Rattle.records.specs.Clear.{Clear, span_of}
use Rattle.records.proofs.ClearLaws.{span-kind, nothing}
use Rattle.model.specs.Table.{Table}
use Rattle.refusals.specs.Answers.{accepted, refused}
use Rattle.reader.specs.Reading.{Answer, reading}
use Rattle.grounds.specs.Places.{after, Records, start, next}
use Rattle.grounds.specs.PlaceLaws.{end-length}
use Rattle.grounds.proofs.Counted.{Clears, Few, few}
use Rattle.grounds.proofs.Trace.{Last, stop, tail, done, reading-ends}

-- A read or a constant is at most 5 bytes and adds a waiting number; an operation is 2 bytes, and takes away one number (binary) or none
-- (unary). A statement that is finished leaves one. So in a loop of s statements w numbers wait in the latest after w + (s - 1) + 2 binary + unary
-- items, and these take at most 5 (w + s - 1) + 7 binary + 2 unary bytes. A loop takes 12 bytes before its items, and 4 more for each further
-- statement: at most 142 where one waits after 32 items of four statements. An array takes 5 bytes.
record Sized (t : Summary) (p : ℕ) : Type 0 where
  binary : ℕ
  unary : ℕ
  items : t.items + 1 ≡ t.waiting + t.statements + 2 * binary + unary
  bytes : p + 139 ≤ 5 * t.arrays + 142 * t.loops + 9 * t.statements + 5 * t.waiting + 7 * binary + 2 * unary

more-item : (t : Summary) (p n : ℕ) → n ≤ 4 → Sized t p → Sized (with_item (t.waiting + 1) t) (p + 1 + n)
unfolding with_item
more-item t p n h z = record { binary = z.binary; unary = z.unary; items = omega (arith, z.items); bytes = omega (arith, z.bytes) }

more-operation : (t : Summary) (p o : ℕ) → operands o ≤ t.waiting → Sized t p → Sized (with_item (t.waiting - operands o + 1) t) (p + 1 + 1)
unfolding with_item operands
more-operation t p o h z = go (eqb o 5) h
  where
    go : (b : Bool) → cond b 1 2 ≤ t.waiting → Sized (with_item (t.waiting - cond b 1 2 + 1) t) (p + 1 + 1)
    go true l = record { binary = z.binary; unary = z.unary + 1; items = omega (arith, z.items); bytes = omega (arith, z.bytes) }
    go false l = record { binary = z.binary + 1; unary = z.unary; items = omega (arith, z.items); bytes = omega (arith, z.bytes) }

more : (k : Kind) (s : List ℕ) (b : ℕ) (t : Summary) (ns : List ℕ) (p : ℕ) → Clear (record_of k s b) t ns → (record_of k s b ≡ End → ⊥)
    → Few t → Sized t p → Sized (advanced (record_of k s b) t) (p + 1 + span_of k)
unfolding record_of advanced with_array with_loop with_statement
more kind.Unknown s b t ns p c e f z = absurd c
more kind.Array s b t ns p c e f z = record { binary = z.binary; unary = z.unary; items = z.items; bytes = omega (arith, z.bytes) }
more kind.Loop s b t ns p c e f z =
    record { binary = 0; unary = 0; items = omega arith; bytes = omega (arith, z.items, z.bytes, f.items, f.statements, c.0) }
more kind.Read s b t ns p c e f z = more-item t p 3 (omega arith) z
more kind.Constant s b t ns p c e f z = more-item t p 4 (omega arith) z
more kind.Operation s b t ns p c e f z = more-operation t p (byte s b) c.4 z
more kind.End s b t ns p c e f z = absurd (e refl)
more kind.Statement s b t ns p c e f z =
    record { binary = z.binary; unary = z.unary; items = omega (arith, z.items, c.1); bytes = omega (arith, z.bytes, c.1) }

sized : (s : List ℕ) (p : ℕ) (rs : List Record) → Records s p rs → Clears rs → Sized (summary rs) p
unfolding summary blank record_at
sized s p rs start c = record { binary = 14; unary = 0; items = refl; bytes = omega arith }
sized s p rs (next {p = q} {rs = qs} before fits known other) c =
    rw (span-kind (byte s q)) (more (kind_of (byte s q)) s (q + 1) (summary qs) (lengths qs) q c.0 other (few qs c.1) (sized s q qs before c.1))

-- every place that the reading comes to
pub near : (s : List ℕ) (p : ℕ) (rs : List Record) → Records s p rs → Clears rs → p ≤ 2361
near s p rs before c =
    let z = sized s p rs before c in
    let f = few rs c in
    omega (arith, z.items, z.bytes, f.arrays, f.loops, f.statements, f.items, f.waiting)

-- an end record that meets no ground
end-sized : (t : Summary) (p : ℕ) → t.waiting ≡ 1 → Few t → Sized t p → p + 1 ≤ 2353
end-sized t p w f z = omega (arith, z.items, z.bytes, f.arrays, f.loops, f.statements, f.items)

pub end-near : (s : List ℕ) (p : ℕ) (rs : List Record) → Records s p rs → Clears rs → (summary rs).waiting ≡ 1 → p + 1 ≤ 2353
end-near s p rs before c w = end-sized (summary rs) p w (few rs c) (sized s p rs before c)

-- a record that is not refused for its kind, for a body left unfinished or for being one too many ends within 2,364 bytes
early-item : (t : Summary) (p n : ℕ) → (2 if eqb t.loops 0 else 4 if leb 32 t.items else 0) ≡ 0 → n ≤ 4 → Few t → Sized t p → p + 1 + n ≤ 2364
early-item t p n e h f z =
    let a = nothing 1 (eqb t.loops 0) _ e in
    let b = nothing 3 (leb 32 t.items) _ a.1 in
    let room : t.items < 32 = leb-false _ _ b.0 in
    omega (arith, z.items, z.bytes, f.arrays, f.loops, f.statements, f.waiting)

early-near : (k : Kind) (t : Summary) (p : ℕ) → early k t ≡ 0 → Few t → Sized t p → p + 1 + span_of k ≤ 2364
unfolding early
early-near kind.Unknown t p e f z = absurd (omega (arith, e))
early-near kind.Array t p e f z =
    let a = nothing 1 (ltb 0 t.loops) _ e in
    let b = nothing 3 (leb 16 t.arrays) _ a.1 in
    let room : t.arrays < 16 = leb-false _ _ b.0 in
    omega (arith, z.items, z.bytes, f.loops, f.statements, f.items, f.waiting)
early-near kind.Loop t p e f z =
    let a = nothing 5 (not (eqb t.waiting 1)) _ e in
    let b = nothing 3 (leb 16 t.loops) _ a.1 in
    let room : t.loops < 16 = leb-false _ _ b.0 in
    omega (arith, z.items, z.bytes, f.arrays, f.statements, f.items, f.waiting)
early-near kind.Read t p e f z = early-item t p 3 e (omega arith) f z
early-near kind.Constant t p e f z = early-item t p 4 e (omega arith) f z
early-near kind.Operation t p e f z = early-item t p 1 e (omega arith) f z
early-near kind.End t p e f z =
    let a = nothing 1 (eqb t.loops 0) _ e in
    let b = nothing 5 (not (eqb t.waiting 1)) _ a.1 in
    let one : t.waiting ≡ 1 = eqb-true _ _ (not-false _ b.0) in
    omega (arith, end-sized t p one f z)
early-near kind.Statement t p e f z =
    let a = nothing 1 (eqb t.loops 0) _ e in
    let b = nothing 5 (not (eqb t.waiting 1)) _ a.1 in
    let one : t.waiting ≡ 1 = eqb-true _ _ (not-false _ b.0) in
    omega (arith, end-sized t p one f z)

pub kind-near : (s : List ℕ) (p : ℕ) (rs : List Record) → Records s p rs → Clears rs → early (kind_of (byte s p)) (summary rs) ≡ 0 → after s p ≤ 2364
kind-near s p rs before c e =
    rw (span-kind (byte s p)) (early-near (kind_of (byte s p)) (summary rs) p e (few rs c) (sized s p rs before c))

-- THE LONGEST TABLE AND THE FURTHEST PLACE
abbrev Near : List ℕ → Answer → Type 0
Near s (accepted t) = length s ≤ 2353
Near s (refused r) = r.place ≤ 2361

last-near : (s : List ℕ) (p : ℕ) (rs : List Record) (a : Answer) → Records s p rs → Clears rs → Last s p rs a → Near s a
last-near s p rs a before c (stop e z) = near s p rs before c
last-near s p rs a before c (tail w l) =
    omega (arith, w.next, end-length s p w.is, end-near s p rs before c w.clear.1)
last-near s p rs a before c (done w l) =
    omega (arith, w.next, end-length s p w.is, end-near s p rs before c w.clear.1)

pub accepted-length : (s : List ℕ) (t : Table) → reading s ≡ accepted t → length s ≤ 2353
accepted-length s t e =
    let h = reading-ends s (accepted t) e in
    omega (arith, last-near s h.place h.rs (accepted t) h.before h.clears h.last)

pub refused-near : (s : List ℕ) (r : Refusal) → reading s ≡ refused r → r.place ≤ 2361
refused-near s r e =
    let h = reading-ends s (refused r) e in
    omega (arith, last-near s h.place h.rs (refused r) h.before h.clears h.last)
