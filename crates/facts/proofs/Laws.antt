-- The facts as one row of numbers.
use Prim.Native.Nat.{ℕ, ◌+◌, ◌*◌, ◌<◌}
use native.Mathlib.Omega.{arith}
use mathlib.Core.Path.{◌≡◌, sym, ap, subst, ◌∙◌}
use mathlib.Core.List.{List, [], ◌∷◌, ◌++◌, append-nil, append_assoc}
use lib.ListN.{length, get_or, length-append}
use lib.Seq.{get_or-take}
use Rattle.order.specs.Sequences.{joined}
use Rattle.order.specs.Lists.{joined_same}
use Rattle.model.specs.Table.{Table, count, first, last}
use Rattle.model.specs.Bodies.{begins}
use Rattle.records.specs.declared.storage.Store.{Store}
use Rattle.reader.specs.Store.{first_at, last_at, arrays_in, loops_in, table_in}
use Rattle.reader.specs.Held.{Held, few-arrays, arrays-held, count_held, few-loops, first-held, last-held}
use Rattle.bodies.specs.Workable.{Based}
use Rattle.iterations.specs.LoadedLaws.{based-total}
use Rattle.text.specs.declared.Writer.{Writer}
use Rattle.text.specs.Puts.{Puts, puts_then, puts-most}
use Rattle.numbers.specs.Numbers.{four, encoded}
use Rattle.numbers.specs.NumberLaws.{encoded-length, encoded-append}
use Rattle.numbers.specs.Pairs.{pairs-length}
use Rattle.facts.specs.Facts.{arrays, counts_of, arrays_of, bounds_of, facts_of}

-- a pair of numbers and one more
pub three-put : (x y z : ℕ) {old mid new : Writer} → Puts old (four x ++ four y) 8 mid → Puts mid (four z) 4 new → Puts old (encoded (x ∷ y ∷ z ∷ [])) 12 new
unfolding encoded
three-put x y z {old} {new = new} p q =
    let w : (four x ++ four y) ++ four z ≡ four x ++ (four y ++ (four z ++ [])) =
    append_assoc (four x) (four y) (four z) ∙ ap (λ (l : List ℕ). four x ++ (four y ++ l)) (sym (append-nil (four z))) in
    subst (λ (l : List ℕ). Puts old l 12 new) w (puts_then p q)

module _ (c : Store) (bs : List ℕ) (h : Held c) (based : Based bs (table_in c).lengths) where
  pub arrays-are : arrays_in c ≡ arrays (table_in c)
  arrays-are = sym (arrays-held h)

  pub loops-are : loops_in c ≡ count (table_in c)
  loops-are = sym (count_held h)

  counts-are : arrays_in c ∷ loops_in c ∷ get_or bs 16 0 ∷ [] ≡ counts_of (table_in c)
  counts-are =
      let e = based-total bs (table_in c).lengths 16 based (omega (arith, arrays-held h, few-arrays h)) (omega arith) in
      ap (λ (n : ℕ). n ∷ loops_in c ∷ get_or bs 16 0 ∷ []) arrays-are
      ∙ ap (λ (n : ℕ). arrays (table_in c) ∷ n ∷ get_or bs 16 0 ∷ []) loops-are
      ∙ ap (λ (n : ℕ). arrays (table_in c) ∷ count (table_in c) ∷ n ∷ []) e

  listed-are : joined (arrays_in c) (λ q. get_or bs q 0 ∷ get_or c.lengths q 0 ∷ []) ≡ arrays_of (table_in c)
  listed-are =
      joined_same (λ q. begins (table_in c).lengths q ∷ get_or (table_in c).lengths q 0 ∷ []) (λ q. get_or bs q 0 ∷ get_or c.lengths q 0 ∷ []) (arrays_in c)
      (λ q l.
      let e = based q (omega (arith, few-arrays h)) in
      let f = get_or-take (arrays_in c) c.lengths q 0 l in
      rw (e, f))
      ∙ ap (λ (n : ℕ). joined n (λ q. begins (table_in c).lengths q ∷ get_or (table_in c).lengths q 0 ∷ [])) arrays-are

  bounds-are : joined (loops_in c) (λ k. first_at c k ∷ last_at c k ∷ []) ≡ bounds_of (table_in c)
  bounds-are =
      joined_same (λ k. first (table_in c) k ∷ last (table_in c) k ∷ []) (λ k. first_at c k ∷ last_at c k ∷ []) (loops_in c)
      (λ k l.
      let i : k < count (table_in c) = omega (arith, loops-are) in
      rw (first-held h k i, last-held h k i))
      ∙ ap (λ (n : ℕ). joined n (λ k. first (table_in c) k ∷ last (table_in c) k ∷ [])) loops-are

  -- three texts one after the other
  pub facts-put : {old mid more new : Writer}
      → Puts old (encoded (arrays_in c ∷ loops_in c ∷ get_or bs 16 0 ∷ [])) 12 mid
      → Puts mid (encoded (joined (arrays_in c) (λ q. get_or bs q 0 ∷ get_or c.lengths q 0 ∷ []))) (8 * arrays_in c) more
      → Puts more (encoded (joined (loops_in c) (λ k. first_at c k ∷ last_at c k ∷ []))) (8 * loops_in c) new
      → Puts old (encoded (facts_of (table_in c))) 268 new
  facts-put {old} {mid} {more} {new} p q r =
      subst (λ (l : List ℕ). Puts old l 268 new) row
      (puts-most 268 (omega (arith, few-arrays h, few-loops h)) (puts_then (rw counts-are at p) (puts_then (rw listed-are at q) (rw bounds-are at r))))
    where
      row : encoded (counts_of (table_in c)) ++ (encoded (arrays_of (table_in c)) ++ encoded (bounds_of (table_in c))) ≡ encoded (facts_of (table_in c))
      row =
          ap (λ (l : List ℕ). encoded (counts_of (table_in c)) ++ l) (sym (encoded-append (arrays_of (table_in c)) (bounds_of (table_in c))))
          ∙ sym (encoded-append (counts_of (table_in c)) (arrays_of (table_in c) ++ bounds_of (table_in c)))

facts-long : (t : Table) → length (encoded (facts_of t)) ≡ 12 + 8 * (arrays t + count t)
facts-long t =
    ap length (encoded-append (counts_of t) (arrays_of t ++ bounds_of t))
    ∙ length-append (encoded (counts_of t)) (encoded (arrays_of t ++ bounds_of t))
    ∙ omega (
      arith,
      encoded-length (counts_of t),
      ap length (encoded-append (arrays_of t) (bounds_of t)) ∙ length-append (encoded (arrays_of t)) (encoded (bounds_of t)),
      pairs-length (arrays t) (begins t.lengths) (λ q. get_or t.lengths q 0),
      pairs-length (count t) (first t) (last t),
    )

pub facts-size : (c : Store) → Held c → (x y : ℕ) → x ≡ arrays_in c → y ≡ loops_in c → length (encoded (facts_of (table_in c))) ≡ 12 + 8 * (x + y)
facts-size c h x y e f = facts-long (table_in c) ∙ omega (arith, arrays-held h, count_held h)
