-- The summary that the tests look at, in the words of the statements; and what is known of records that met no ground.
use Rattle.std.specs.Prelude.{ℕ, ◌+◌, ◌≤◌, ◌<◌, ◌≡◌, refl, Bool, true, false, cond, List, [], ◌∷◌, ◌++◌, eqb}
use Rattle.std.proofs.Common.{arith, sym, length-append}
use Rattle.records.specs.declared.Record.{Record}
use Rattle.records.specs.declared.Record.TheVariants.{Unknown, Array, Loop, Read, Constant, Operation, End, Statement}
use Rattle.records.specs.declared.Summary.{Summary}
use Rattle.records.specs.History.{summary, lengths, advanced, blank, with_array, with_loop, operands}
use Rattle.records.specs.History.{with_item as item_more, with_statement as statement_more}
use Rattle.records.specs.Clear.{Clear}
use Rattle.reader.specs.Accepting.{arrays-counted as lengths-counted}
use Rattle.grounds.specs.Statements.{arrays, sum, elements, loops, latest, statement_count, items, waiting_after, waiting}

pub sum-append : (ns ms : List ℕ) → sum (ns ++ ms) ≡ sum ns + sum ms
sum-append [] ms = omega arith
sum-append (n ∷ ns) ms = omega (arith, sum-append ns ms)

pub arrays-counted : (rs : List Record) → (summary rs).arrays ≡ arrays rs
arrays-counted rs = sym (lengths-counted rs)

pub elements-counted : (rs : List Record) → (summary rs).elements ≡ elements rs
unfolding summary advanced blank with_array with_loop item_more statement_more lengths
elements-counted [] = refl
elements-counted (Unknown ∷ rs) = elements-counted rs
elements-counted (Array n ∷ rs) = omega (arith, elements-counted rs, sum-append (lengths rs) (n ∷ []))
elements-counted (Loop f l q o ∷ rs) = elements-counted rs
elements-counted (Read q o ∷ rs) = elements-counted rs
elements-counted (Constant n ∷ rs) = elements-counted rs
elements-counted (Operation o ∷ rs) = elements-counted rs
elements-counted (End ∷ rs) = elements-counted rs
elements-counted (Statement q o ∷ rs) = elements-counted rs

pub loops-counted : (rs : List Record) → (summary rs).loops ≡ loops rs
unfolding summary advanced blank with_array with_loop item_more statement_more loops
loops-counted [] = refl
loops-counted (Unknown ∷ rs) = loops-counted rs
loops-counted (Array n ∷ rs) = loops-counted rs
loops-counted (Loop f l q o ∷ rs) = omega (arith, loops-counted rs)
loops-counted (Read q o ∷ rs) = loops-counted rs
loops-counted (Constant n ∷ rs) = loops-counted rs
loops-counted (Operation o ∷ rs) = loops-counted rs
loops-counted (End ∷ rs) = loops-counted rs
loops-counted (Statement q o ∷ rs) = loops-counted rs

-- the latest loop, where there is one
pub record Body (rs : List Record) : Type 0 where
  pub first : (summary rs).first ≡ (latest rs).first
  pub last : (summary rs).last ≡ (latest rs).last
  pub statements : (summary rs).statements ≡ statement_count rs
  pub items : (summary rs).items ≡ items rs
  pub waiting : (summary rs).waiting ≡ waiting rs

-- where a record leaves the latest loop as it was
same_body : (rs qs : List Record) → (summary qs).first ≡ (summary rs).first → (summary qs).last ≡ (summary rs).last
    → (summary qs).statements ≡ (summary rs).statements → (summary qs).items ≡ (summary rs).items → (summary qs).waiting ≡ (summary rs).waiting
    → latest qs ≡ latest rs → Body rs → Body qs
same_body rs qs f l s i w e b = record {
  first = rw (f, e) b.first;
  last = rw (l, e) b.last;
  statements = rw (s, e) b.statements;
  items = rw (i, e) b.items;
  waiting = rw (w, e) b.waiting;
}

pub body-counted : (rs : List Record) → 0 < loops rs → Body rs
unfolding summary advanced blank with_array with_loop item_more statement_more loops latest waiting_after
body-counted [] h = absurd (omega arith)
body-counted (Unknown ∷ rs) h = same_body rs (Unknown ∷ rs) refl refl refl refl refl refl (body-counted rs h)
body-counted (Array n ∷ rs) h = same_body rs (Array n ∷ rs) refl refl refl refl refl refl (body-counted rs h)
body-counted (Loop f l q o ∷ rs) h = record { first = refl; last = refl; statements = refl; items = refl; waiting = refl }
body-counted (Read q o ∷ rs) h =
    let b = body-counted rs h in
    record { first = b.first; last = b.last; statements = b.statements; items = omega (arith, b.items); waiting = omega (arith, b.waiting) }
body-counted (Constant n ∷ rs) h =
    let b = body-counted rs h in
    record { first = b.first; last = b.last; statements = b.statements; items = omega (arith, b.items); waiting = omega (arith, b.waiting) }
body-counted (Operation o ∷ rs) h =
    let b = body-counted rs h in
    record { first = b.first; last = b.last; statements = b.statements; items = omega (arith, b.items); waiting = rw b.waiting }
body-counted (End ∷ rs) h = same_body rs (End ∷ rs) refl refl refl refl refl refl (body-counted rs h)
body-counted (Statement q o ∷ rs) h =
    let b = body-counted rs h in
    record { first = b.first; last = b.last; statements = omega (arith, b.statements); items = omega (arith, b.items); waiting = refl }

-- each of the records met no ground after those before it
abbrev pub Clears : List Record → Type 0
Clears [] = Unit {0}
Clears (r ∷ rs) = Clear r (summary rs) (lengths rs) × Clears rs

-- so a loop has an array before it, and its first is at most its last
pub loop-array : (rs : List Record) → Clears rs → 0 < loops rs → 0 < arrays rs
unfolding loops lengths
loop-array [] c h = absurd (omega arith)
loop-array (Unknown ∷ rs) c h = absurd c.0
loop-array (Array n ∷ rs) c h = omega (arith, length-append (lengths rs) (n ∷ []))
loop-array (Loop f l q o ∷ rs) c h = omega (arith, c.0.4, arrays-counted rs)
loop-array (Read q o ∷ rs) c h = loop-array rs c.1 h
loop-array (Constant n ∷ rs) c h = loop-array rs c.1 h
loop-array (Operation o ∷ rs) c h = loop-array rs c.1 h
loop-array (End ∷ rs) c h = loop-array rs c.1 h
loop-array (Statement q o ∷ rs) c h = loop-array rs c.1 h

pub first-last : (rs : List Record) → Clears rs → (latest rs).first ≤ (latest rs).last
unfolding latest
first-last [] c = omega arith
first-last (Unknown ∷ rs) c = absurd c.0
first-last (Array n ∷ rs) c = first-last rs c.1
first-last (Loop f l q o ∷ rs) c = c.0.3
first-last (Read q o ∷ rs) c = first-last rs c.1
first-last (Constant n ∷ rs) c = first-last rs c.1
first-last (Operation o ∷ rs) c = first-last rs c.1
first-last (End ∷ rs) c = first-last rs c.1
first-last (Statement q o ∷ rs) c = first-last rs c.1

-- before the first loop nothing is unfinished
pub no_loop_lem : (rs : List Record) → Clears rs → loops rs ≡ 0 → (summary rs).waiting ≡ 1
unfolding summary advanced blank with_array loops
no_loop_lem [] c e = refl
no_loop_lem (Unknown ∷ rs) c e = absurd c.0
no_loop_lem (Array n ∷ rs) c e = no_loop_lem rs c.1 e
no_loop_lem (Loop f l q o ∷ rs) c e = absurd (omega arith)
no_loop_lem (Read q o ∷ rs) c e = absurd (omega (arith, c.0.0, loops-counted rs))
no_loop_lem (Constant n ∷ rs) c e = absurd (omega (arith, c.0.0, loops-counted rs))
no_loop_lem (Operation o ∷ rs) c e = absurd (omega (arith, c.0.0, loops-counted rs))
no_loop_lem (End ∷ rs) c e = no_loop_lem rs c.1 e
no_loop_lem (Statement q o ∷ rs) c e = absurd (omega (arith, c.0.0, loops-counted rs))

-- counts never pass their bounds
pub record Few (t : Summary) : Type 0 where
  pub arrays : t.arrays ≤ 16
  pub elements : t.elements ≤ 262144
  pub loops : t.loops ≤ 16
  pub statements : t.statements ≤ 4
  pub items : t.items ≤ 32
  pub waiting : t.waiting ≤ 8

more-items : (t : Summary) (w : ℕ) → Few t → t.items < 32 → w ≤ 8 → Few (item_more w t)
unfolding item_more
more-items t w h i l = record {
  arrays = h.arrays;
  elements = h.elements;
  loops = h.loops;
  statements = h.statements;
  items = omega arith;
  waiting = l;
}

-- an operation takes one or two
pub some-operands : (o : ℕ) → (1 ≤ operands o) × (operands o ≤ 2)
unfolding operands
some-operands o = go (eqb o 5)
  where
    go : (b : Bool) → (1 ≤ cond b 1 2) × (cond b 1 2 ≤ 2)
    go true = omega arith
    go false = omega arith

pub few : (rs : List Record) → Clears rs → Few (summary rs)
unfolding summary advanced blank with_array with_loop statement_more
few [] c = record {
  arrays = omega arith;
  elements = omega arith;
  loops = omega arith;
  statements = omega arith;
  items = omega arith;
  waiting = omega arith;
}
few (Unknown ∷ rs) c = absurd c.0
few (Array n ∷ rs) c =
    let h = few rs c.1 in
    record { arrays = omega (arith, c.0.1); elements = c.0.4; loops = h.loops; statements = h.statements; items = h.items; waiting = h.waiting }
few (Loop f l q o ∷ rs) c =
    let h = few rs c.1 in
    record {
      arrays = h.arrays;
      elements = h.elements;
      loops = omega (arith, c.0.1);
      statements = omega arith;
      items = omega arith;
      waiting = omega arith;
    }
few (Read q o ∷ rs) c = more-items (summary rs) _ (few rs c.1) c.0.1 (omega (arith, c.0.4))
few (Constant n ∷ rs) c = more-items (summary rs) _ (few rs c.1) c.0.1 (omega (arith, c.0.2))
few (Operation o ∷ rs) c =
    more-items (summary rs) _ (few rs c.1) c.0.1 (omega (arith, c.0.4, (some-operands o).0, (few rs c.1).waiting))
few (End ∷ rs) c = few rs c.1
few (Statement q o ∷ rs) c =
    let h = few rs c.1 in
    record {
      arrays = h.arrays;
      elements = h.elements;
      loops = h.loops;
      statements = omega (arith, c.0.2);
      items = h.items;
      waiting = omega arith;
    }
