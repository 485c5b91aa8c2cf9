-- What joining writes is read back as one table: left's arrays, left's loops and then right's. 9 never arises, since no loop is new.
use Rattle.std.specs.Prelude.{ℕ, ◌+◌, ◌-◌, ◌≤◌, ◌<◌, ◌≡◌, refl, List, [], ◌∷◌, length}
use Rattle.std.proofs.Common.{arith, sym, ap, ◌∙◌, length-append, get_or-append-add}
use Rattle.std.proofs.Math.Decide.{dec_lt}
use Rattle.std.proofs.Math.ListN.{get_or-append}
use Rattle.records.specs.declared.Record.{Record}
use Rattle.records.specs.declared.Record.TheVariants.{Loop, End}
use Rattle.records.specs.History.{summary, lengths, advanced, with_loop}
use Rattle.records.specs.Clear.{Clear}
use Rattle.records.specs.Encoding.{encode_all}
use Rattle.model.specs.Table.{Table, no_loop, count, loop}
use Rattle.model.specs.Table.{Loop as LoopOf}
use Rattle.refusals.specs.Answers.{accepted}
use Rattle.reader.specs.Reading.{reading, table_of, loops_of}
use Rattle.reader.specs.Accepting.{accepted-rest, arrays-counted, loops-counted}
use Rattle.std.specs.Prelude.{None}
use Rattle.serial.specs.Serial.{table, loop_hit}
use Rattle.serial.proofs.Parallel.{Parallel, parallel-accepted, accepted-parallel}
use Rattle.joins.specs.Records.{records_of}
use Rattle.joins.proofs.Canonical.{Onward, ends, goes, rest-onward, onward-accepted}
use Rattle.joins.specs.Joining.{joined_records, joining, together}
use Rattle.joins.proofs.Written.{joined-together, written_known}
use Rattle.joins.proofs.Beside.{Opening, opening, onward-opened, onward-end, Behind, behind-first, behind-clear, behind_more}

-- the left table without its end, and then whatever follows
left-part : (rs all total : List Record) → Onward rs all → Onward all total → Onward rs total
left-part rs all total (ends c) more = more
left-part rs all total (goes {r} c o h) more = goes c o (left-part (r ∷ rs) all total h more)

-- the right table from its first loop on, behind the loops ls
right-part : (ls : List LoopOf) (rs all qs : List Record) → Onward rs all → Behind ls rs qs → length ls + (summary all).loops ≤ 16
    → (total : List Record) × Onward qs total × Behind ls all total
unfolding summary advanced
right-part ls rs all qs (ends c) b few = (qs, ends (behind-clear ls rs qs b End c (omega (arith, b.loops))), b)
right-part ls rs all qs (goes {r} c o h) b few =
    let next : Behind ls (r ∷ rs) (r ∷ qs) = behind_more ls rs qs b r c o in
    let room : (summary (r ∷ qs)).loops ≤ 16 = omega (arith, next.loops, (onward-opened (r ∷ rs) all h next.some).0, few) in
    let (total, rest, end) = right-part ls (r ∷ rs) all (r ∷ qs) h next few in
    (total, goes (behind-clear ls rs qs b r c room) o rest, end)

-- TWO TABLES with the same arrays and no more than 16 loops in all
module _ (ours theirs : List Record) (own : Onward [] ours) (b : Opening theirs)
    (same : lengths ours ≡ lengths theirs) (few : (summary ours).loops + (summary theirs).loops ≤ 16) where
  open b use {rs, none, f, l, q, o, clear, onward}

  -- right's arrays are all read where its first loop stands
  opens : (1 ≤ (summary theirs).loops) × (lengths theirs ≡ lengths rs)
  unfolding summary advanced with_loop lengths
  opens =
      let (more, still) = onward-opened (Loop f l q o ∷ rs) theirs onward (omega arith) in (omega (arith, none), still)

  lens : lengths ours ≡ lengths rs
  lens = same ∙ opens.1

  -- the first loop of the right table, behind the left one
  first : Clear (Loop f l q o) (summary ours) (lengths ours)
  first =
      let w : (summary ours).waiting ≡ 1 = (onward-end [] ours own).1 in
      let e : (summary ours).arrays ≡ (summary rs).arrays = sym (arrays-counted ours) ∙ ap length lens ∙ arrays-counted rs in
      rw (e, lens) (w, omega (arith, opens.0), clear.2, clear.3, clear.4, clear.5, clear.6)

  joined-onward : (all : List Record) × Onward [] all × Behind (loops_of ours [] []) theirs all
  joined-onward =
      let ls = loops_of ours [] [] in
      let begun : Behind ls (Loop f l q o ∷ rs) (Loop f l q o ∷ ours) = behind-first ls rs ours f l q o none lens refl in
      let (all, more, end) =
      right-part ls (Loop f l q o ∷ rs) theirs (Loop f l q o ∷ ours) onward begun (omega (arith, loops-counted ours [] [])) in
      (all, left-part [] ours all own (goes first other more), end)
    where
      other : Loop f l q o ≡ End → ⊥
      other e = let z : ◌≡◌ {A = ℕ} 0 1 = cc in omega arith

records-joined : (ours theirs : List Record) → Onward [] ours → Onward [] theirs → lengths ours ≡ lengths theirs
    → count (table_of ours) + count (table_of theirs) ≤ 16
    → reading (encode_all (records_of (together (table_of ours) (table_of theirs)))) ≡ accepted (together (table_of ours) (table_of theirs))
records-joined ours theirs own other same few =
    let loops : (summary ours).loops + (summary theirs).loops ≤ 16 = omega (arith, loops-counted ours [] [], loops-counted theirs [] []) in
    let (all, onward, end) = joined-onward ours theirs own (opening theirs other) same loops in
    let z : table_of all ≡ together (table_of ours) (table_of theirs) = rw (end.lens ∙ sym same, end.table [] []) in
    rw z at (onward-accepted all onward)

pub reading-joined : (left right : List ℕ) (t u : Table) → reading left ≡ accepted t → reading right ≡ accepted u → t.lengths ≡ u.lengths
    → count t + count u ≤ 16 → reading (encode_all (joined_records t u)) ≡ accepted (together t u)
reading-joined left right t u e g same few =
    let (ours, own, is) = accepted-rest left t e in
    let (theirs, other, at) = accepted-rest right u g in
    ap (λ (l : List Record). reading (encode_all l)) (joined-together t u)
    ∙ rw (is, at)
    (records-joined ours theirs (rest-onward left 0 [] ours own) (rest-onward right 0 [] theirs other) (rw (is, at) at same) (rw (is, at) at few))

-- no loop is new
both-parallel : (t u : Table) → Parallel t → Parallel u → Parallel (together t u)
both-parallel t u p r k l = go (dec_lt k (count t))
  where
    go : Dec (k < count t) → loop_hit (loop (together t u) k) ≡ None
    go (yes h) = rw (get_or-append t.loops u.loops no_loop k h) (p k h)
    go (no h) =
        let j = k - count t in
        let e : k ≡ count t + j = omega arith in
        ap (λ m. loop_hit (loop (together t u) m)) e
        ∙ ap loop_hit (get_or-append-add t.loops u.loops j no_loop)
        ∙ r j (omega (arith, length-append t.loops u.loops))

-- THE THEOREM: the bytes that are written are an accepted table, of left's arrays and both tables' loops
pub read_back : (left right : List ℕ) (room : ℕ) (bs : List ℕ) (t u : Table) → joining left right room ≡ accepted bs → table left ≡ accepted t
    → table right ≡ accepted u → table bs ≡ accepted (together t u)
read_back left right room bs t u e g h =
    let w = written_known left right room bs e in
    let (read_left, p) = accepted-parallel left t g in
    let (read_right, q) = accepted-parallel right u h in
    let x : w.ours ≡ t = same (sym w.left_is ∙ g) in
    let y : w.theirs ≡ u = same (sym w.right_is ∙ h) in
    let r : reading bs ≡ accepted (together t u) =
    rw (w.made, x, y) (reading-joined left right t u read_left read_right (rw (x, y) at w.like) (rw (x, y) at w.few)) in
    parallel-accepted bs (together t u) r (both-parallel t u p q)
  where
    same : {a b : Table} → accepted a ≡ accepted b → a ≡ b
    same z = cc
