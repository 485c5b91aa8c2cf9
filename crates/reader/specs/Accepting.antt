-- How a reading that accepts a table goes: it passes whole records, up to an end record at the last byte.
use Rattle.std.specs.Prelude.{ℕ, zero, suc, ◌+◌, ◌*◌, ◌≤◌, ◌<◌, ◌≡◌, refl, Bool, true, false, List, [], ◌∷◌, length, ltb}
use Rattle.std.proofs.Common.{arith, subst, length-append, ltb-false, le-ltb}
use Rattle.records.specs.declared.Record.{Record}
use Rattle.records.specs.declared.Record.TheVariants.{Unknown, Array, Loop, Read, Constant, Operation, End, Statement}
use Rattle.records.specs.declared.Tested.{Tested}
use Rattle.records.specs.declared.Tested.TheVariants as found
use Rattle.records.specs.History.{summary, lengths, advanced, blank, with_array, with_loop, with_item, with_statement}
use Rattle.records.specs.Grounds.{tested}
use Rattle.records.proofs.Outcome.{Whole, passed-whole, ended-whole}
use Rattle.records.proofs.Passing.{whole-passed, whole-ended}
use Rattle.records.proofs.Same.{record-length}
use Rattle.model.specs.Table.{Item, read, constant, operation, Table}
use Rattle.model.specs.Table.{Statement as StatementOf}
use Rattle.refusals.specs.Refusals.{met}
use Rattle.refusals.specs.Answers.{accepted, refused, ◌if◌else◌}
use Rattle.refusals.proofs.AnswerLaws.{not-both}
use Rattle.reader.specs.Reading.{follow, read_from, reading, table_of, loops_of}

-- from a place on, after the records rs: all is what has been read where the reading ends
pub data Rest (s : List ℕ) : ℕ → List Record → List Record → Type 0 where
  ended : {at : ℕ} {rs : List Record} → Whole s at (summary rs) (lengths rs) End (length s) → Rest s at rs rs
  passed : {at n : ℕ} {rs all : List Record} {r : Record} → Whole s at (summary rs) (lengths rs) r n → (r ≡ End → ⊥)
      → Rest s n (r ∷ rs) all → Rest s at rs all

-- there is a record at the place
pub rest-there : (s : List ℕ) (at : ℕ) (rs all : List Record) → Rest s at rs all → at < length s
rest-there s at rs all (ended w) = w.there
rest-there s at rs all (passed w o h) = w.there

-- THE READING ACCEPTS WHAT GOES SO
rest_from : (s : List ℕ) (at : ℕ) (rs all : List Record) → Rest s at rs all → (f : ℕ) → length s < at + f
    → read_from f s at rs ≡ accepted (table_of all)
unfolding read_from follow
rest_from s at rs all h zero l = absurd (omega (arith, rest-there s at rs all h))
rest_from s at rs all (ended w) (suc f) l =
    rw (whole-ended (summary rs) (lengths rs) s at End (length s) w refl, le-ltb (length s) (length s) (omega arith))
rest_from s at rs all (passed {n} {r} w o h) (suc f) l =
    rw (whole-passed (summary rs) (lengths rs) s at r n w o)
    (rest_from s n (r ∷ rs) all h f (omega (arith, w.next)))

pub rest-accepted : (s : List ℕ) (all : List Record) → Rest s 0 [] all → reading s ≡ accepted (table_of all)
unfolding reading
rest-accepted s all h = rest_from s 0 [] all h (suc (length s)) (omega arith)

-- AND WHAT IT ACCEPTS GOES SO
abbrev Gone : List ℕ → ℕ → List Record → Table → Type 0
Gone s at rs t = (all : List Record) × Rest s at rs all × (t ≡ table_of all)

from-rest : (f : ℕ) (s : List ℕ) (at : ℕ) (rs : List Record) (t : Table) → read_from f s at rs ≡ accepted t → Gone s at rs t
unfolding read_from follow
from-rest zero s at rs t e = absurd (not-both e)
from-rest (suc f) s at rs t e = go (λ r n. from-rest f s n (r ∷ rs) t) (tested s at (summary rs) (lengths rs)) refl e
  where
    end : (n : ℕ) → Whole s at (summary rs) (lengths rs) End n → (b : Bool) → ltb n (length s) ≡ b
        → (refused (met 8 n) if b else accepted (table_of rs)) ≡ accepted t → Gone s at rs t
    end n w true l h = absurd (not-both h)
    end n w false l h =
        let m : n ≡ length s = omega (arith, ltb-false n (length s) l, w.fits) in
        (rs, ended (subst (Whole s at (summary rs) (lengths rs) End) m w), cc)

    go : ((r : Record) (n : ℕ) → read_from f s n (r ∷ rs) ≡ accepted t → Gone s n (r ∷ rs) t) → (x : Tested)
        → tested s at (summary rs) (lengths rs) ≡ x → follow s rs (λ r n. read_from f s n (r ∷ rs)) x ≡ accepted t → Gone s at rs t
    go more (found.Refused g) k h = absurd (not-both h)
    go more (found.Passed r n) k h =
        let (w, o) = passed-whole s at (summary rs) (lengths rs) r n k in
        let (all, rest, is) = more r n h in
        (all, passed w o rest, is)
    go more (found.Ended n) k h = end n (ended-whole s at (summary rs) (lengths rs) n k) (ltb n (length s)) refl h

pub accepted-rest : (s : List ℕ) (t : Table) → reading s ≡ accepted t → (all : List Record) × Rest s 0 [] all × (t ≡ table_of all)
unfolding reading
accepted-rest s t e = from-rest (suc (length s)) s 0 [] t e

-- COUNTS
pub arrays-counted : (rs : List Record) → length (lengths rs) ≡ (summary rs).arrays
unfolding summary advanced blank with_array with_loop with_item with_statement lengths
arrays-counted [] = refl
arrays-counted (Unknown ∷ rs) = arrays-counted rs
arrays-counted (Array n ∷ rs) = omega (arith, arrays-counted rs, length-append (lengths rs) (n ∷ []))
arrays-counted (Loop f l q o ∷ rs) = arrays-counted rs
arrays-counted (Read q o ∷ rs) = arrays-counted rs
arrays-counted (Constant n ∷ rs) = arrays-counted rs
arrays-counted (Operation o ∷ rs) = arrays-counted rs
arrays-counted (End ∷ rs) = arrays-counted rs
arrays-counted (Statement q o ∷ rs) = arrays-counted rs

pub loops-counted : (rs : List Record) (xs : List Item) (ss : List StatementOf) → length (loops_of rs xs ss) ≡ (summary rs).loops
unfolding summary advanced blank with_array with_loop with_item with_statement loops_of
loops-counted [] xs ss = refl
loops-counted (Unknown ∷ rs) xs ss = loops-counted rs xs ss
loops-counted (Array n ∷ rs) xs ss = loops-counted rs xs ss
loops-counted (Loop f l q o ∷ rs) xs ss =
    omega (
      arith,
      loops-counted rs [] [],
      length-append (loops_of rs [] []) (record { first = f; last = l; body = record { array = q; offset = o; items = xs } ∷ ss } ∷ []),
    )
loops-counted (Read q o ∷ rs) xs ss = loops-counted rs (read q o ∷ xs) ss
loops-counted (Constant n ∷ rs) xs ss = loops-counted rs (constant n ∷ xs) ss
loops-counted (Operation o ∷ rs) xs ss = loops-counted rs (operation o ∷ xs) ss
loops-counted (End ∷ rs) xs ss = loops-counted rs xs ss
loops-counted (Statement q o ∷ rs) xs ss = loops-counted rs [] (record { array = q; offset = o; items = xs } ∷ ss)

-- an array's record has five bytes
five : (s : List ℕ) (at n : ℕ) (rs : List Record) (r : Record) → Whole s at (summary rs) (lengths rs) r n → 5 * (summary rs).arrays ≤ at
    → 5 * (summary (r ∷ rs)).arrays ≤ n
unfolding summary advanced with_array with_loop with_item with_statement
five s at n rs Unknown w h = omega (arith, w.next)
five s at n rs (Array m) w h = omega (arith, w.next, record-length s at (Array m) w.is)
five s at n rs (Loop f l q o) w h = omega (arith, w.next)
five s at n rs (Read q o) w h = omega (arith, w.next)
five s at n rs (Constant m) w h = omega (arith, w.next)
five s at n rs (Operation o) w h = omega (arith, w.next)
five s at n rs End w h = omega (arith, w.next)
five s at n rs (Statement q o) w h = omega (arith, w.next)

rest-long : (s : List ℕ) (at : ℕ) (rs all : List Record) → Rest s at rs all → 5 * (summary rs).arrays ≤ at → 5 * (summary all).arrays < length s
rest-long s at rs all (ended w) l = omega (arith, w.there)
rest-long s at rs all (passed {n} {r} w o h) l = rest-long s n (r ∷ rs) all h (five s at n rs r w l)

-- a table has its arrays' records, and more
pub accepted-long : (s : List ℕ) (t : Table) → reading s ≡ accepted t → 5 * length t.lengths < length s
unfolding summary blank
accepted-long s t e =
    let (all, rest, is) = accepted-rest s t e in
    let long : 5 * (summary all).arrays < length s = rest-long s 0 [] all rest (omega arith) in
    rw is (omega (arith, long, arrays-counted all))
