-- The answers of joining, case by case.
use Prim.Native.Nat.{ℕ, ◌+◌, ◌*◌, ◌-◌, ◌≤◌, ◌<◌}
use native.Mathlib.Omega.{arith}
use mathlib.Core.Path.{◌≡◌, refl, sym, ap, subst, ◌∙◌}
use mathlib.Core.Bool.{Bool, true, false, not}
use mathlib.Core.List.{List, ◌++◌}
use lib.ListN.{length, take, drop, length-append}
use borrow.Rule.Slice.PartMut.{put_mid}
use lib.Dec.{ltb}
use borrow.Author.Tests.{lt-ltb, le-ltb}
use Rattle.records.specs.declared.storage.Store.{Store}
use Rattle.records.specs.Encoding.{encode_all, Bytes}
use Rattle.std.specs.Prelude.{Result, Ok, Err}
use Rattle.refusals.specs.declared.Refusal.{Refusal}
use Rattle.refusals.specs.Refusals.{met}
use Rattle.refusals.specs.Answers.{accepted, refused, ◌if◌else◌}
use Rattle.reader.specs.Accepting.{accepted-long}
use Rattle.reader.specs.Store.{arrays_in, loops_in, table_in}
use Rattle.reader.specs.Held.{Held, few-arrays, arrays-held, count_held}
use Rattle.serial.specs.Serial.{table}
use Rattle.serial.proofs.Parallel.{accepted-parallel}
use Rattle.outputs.specs.Given.{Given, fitted}
use Rattle.outputs.specs.Gives.{Gives}
use Rattle.outputs.proofs.GivesLaws.{gives-refused, after-refuses, after-gives, gives-short, gives-written}
use Rattle.joins.specs.Joining.{alike, joined_records, joining}
use Rattle.joins.proofs.Written.{alike_same}
use Rattle.joins.specs.Copied.{bytes}
use Rattle.joins.proofs.Copied.{bytes-length, bytes-joined}
use Rattle.joining.proofs.Walks.{copied-both}

-- an accepted table is longer than its arrays' records
long : (s : List ℕ) (c : Store) → table s ≡ accepted (table_in c) → 5 * length (table_in c).lengths < length s
long s c e = accepted-long s (table_in c) (accepted-parallel s (table_in c) e).0

-- WRITING
module _ (left right out : List ℕ) (arrays : ℕ) where
  abbrev size : ℕ
  size = length left - 1 + (length right - 5 * arrays)

  module _ (some : 0 < length left) where
    pub too_long_lem : length out < size → Gives (fitted (length out) (bytes left right arrays)) out out (Err (met 13 0))
    too_long_lem h = gives-short (bytes left right arrays) out (omega (arith, bytes-length left right arrays some))

    pub wrote : (xs ys : List ℕ) (n : ℕ) → size ≤ length out → xs ≡ take (length left - 1) left → ys ≡ drop (5 * arrays) right
        → n ≡ length ys → Gives (fitted (length out) (bytes left right arrays)) out (put_mid (length xs) n (xs ++ drop (length xs) out) ys) (Ok (length xs + length ys))
    unfolding bytes
    wrote xs ys n h e f g =
        let all : length (xs ++ ys) ≡ length xs + length ys = length-append xs ys in
        let z : xs ++ ys ≡ bytes left right arrays = rw (e, f) refl in
        let long : length (bytes left right arrays) ≡ size = bytes-length left right arrays some in
        let k : length (xs ++ ys) ≡ size = ap length z ∙ long in
        gives-written (bytes left right arrays) out _ (length xs + length ys) (omega (arith, long)) (sym all ∙ ap length z)
        (copied-both xs ys out n g (omega (arith, k, all)) ∙ ap (λ (l : List ℕ). l ++ drop (length l) out) z)

-- BOTH TABLES
module _ (left right out : List ℕ) where
  -- what joining answers and leaves
  abbrev pub Told : Result ℕ Refusal → List ℕ → Type 0
  Told o then = Gives (joining left right (length out)) out then o

  pub left-refused : (r : Refusal) → table left ≡ refused r → Told (Err r) out
  unfolding joining
  left-refused r e = after-refuses (table left) _ out r e

  module _ (ours : Store) (l : table left ≡ accepted (table_in ours)) (h : Held ours) where
    pub right-refused : (r : Refusal) → table right ≡ refused r → Told (Err r) out
    unfolding joining
    right-refused r e = after-gives (table left) _ out (table_in ours) l out (Err r) (after-refuses (table right) _ out r e)

    module _ (theirs : Store) (r : table right ≡ accepted (table_in theirs)) (k : Held theirs) where
      abbrev same : Bool
      same = alike (table_in ours).lengths (table_in theirs).lengths

      -- both are accepted: what is left of the tests
      both : joining left right (length out)
          ≡ (refused (met 14 0) if not same else
          refused (met 4 0) if ltb 16 (loops_in ours + loops_in theirs) else
          fitted (length out) (encode_all (joined_records (table_in ours) (table_in theirs))))
      unfolding joining
      both = rw (l, r, count_held h, count_held k)

      pub unlike-arrays : false ≡ same → Told (Err (met 14 0)) out
      unlike-arrays e = gives-refused (joining left right (length out)) out (met 14 0) (both ∙ rw (← e))

      module _ (like : true ≡ same) where
        pub many-loops : 16 < loops_in ours + loops_in theirs → Told (Err (met 4 0)) out
        many-loops m = gives-refused (joining left right (length out)) out (met 4 0) (both ∙ rw (← like, lt-ltb _ _ m))

        same-arrays : (table_in ours).lengths ≡ (table_in theirs).lengths
        same-arrays = alike_same (table_in ours).lengths (table_in theirs).lengths (sym like)

        -- what is copied is what is to be written
        copied : Bytes left → Bytes right → bytes left right (arrays_in ours) ≡ encode_all (joined_records (table_in ours) (table_in theirs))
        copied b c =
            ap (bytes left right) (sym (arrays-held h))
            ∙ bytes-joined (table_in ours) (table_in theirs) left right b c (accepted-parallel left (table_in ours) l).0
            (accepted-parallel right (table_in theirs) r).0 same-arrays

        pub joined : Bytes left → Bytes right → (o : Result ℕ Refusal) (then : List ℕ) → loops_in ours + loops_in theirs ≤ 16
            → Gives (fitted (length out) (bytes left right (arrays_in ours))) out then o → Told o then
        joined b c o then m g =
            subst (λ (x : Given). Gives x out then o) (ap (fitted (length out)) (copied b c) ∙ sym (both ∙ rw (← like, le-ltb _ _ m))) g

        -- right's arrays are as many as left's, so there is something of it past them
        pub enough : (0 < length left) × (arrays_in ours ≤ 16) × (5 * arrays_in ours ≤ length right)
        enough =
            let as_many = ap length same-arrays in (
              omega (arith, long left ours l),
              few-arrays h,
              omega (arith, long right theirs r, as_many, arrays-held h),
            )
