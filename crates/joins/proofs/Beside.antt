-- Two readings side by side: of a table by itself, and of its loops behind those of another table with the same arrays.
use Rattle.std.specs.Prelude.{ℕ, ◌+◌, ◌-◌, ◌≤◌, ◌<◌, ◌≡◌, refl}
use native.Mathlib.Omega.{arith}
use Rattle.std.proofs.Math.Path.{sym, ap}
use Rattle.std.proofs.Common.{◌∙◌}
use mathlib.Core.List.{List, [], ◌∷◌, ◌++◌, append_assoc}
use Rattle.std.proofs.Math.ListN.{length}
use Rattle.records.specs.declared.Record.{Record}
use Rattle.records.specs.declared.Record.TheVariants.{Unknown, Array, Loop, Read, Constant, Operation, End, Statement}
use Rattle.records.specs.declared.Summary.{Summary}
use Rattle.records.specs.History.{summary, lengths, advanced, blank, with_array, with_loop, with_item, with_statement, operands}
use Rattle.records.specs.Clear.{Clear}
use Rattle.model.specs.Table.{Item, read, constant, operation}
use Rattle.model.specs.Table.{Statement as StatementOf, Loop as LoopOf}
use Rattle.reader.specs.Reading.{loops_of}
use Rattle.reader.specs.Accepting.{arrays-counted, loops-counted}
use Rattle.joins.proofs.RecordsLaws.{no_loop_lem}
use Rattle.joins.proofs.Canonical.{Onward, ends, goes}

-- THE ARRAYS COME FIRST
-- the first loop: before it there are arrays alone
pub record Opening (all : List Record) : Type 0 where
  pub rs : List Record
  pub none : (summary rs).loops ≡ 0
  pub f : ℕ
  pub l : ℕ
  pub q : ℕ
  pub o : ℕ
  pub clear : Clear (Loop f l q o) (summary rs) (lengths rs)
  pub onward : Onward (Loop f l q o ∷ rs) all

first-loop : (rs all : List Record) → Onward rs all → (summary rs).loops ≡ 0 → Opening all
unfolding summary advanced with_array
first-loop rs all (ends c) none = absurd (omega (arith, c.0, none))
first-loop rs all (goes {r} c o h) none = go r c h (first-loop (r ∷ rs) all h)
  where
    go : (x : Record) → Clear x (summary rs) (lengths rs) → Onward (x ∷ rs) all → ((summary (x ∷ rs)).loops ≡ 0 → Opening all) → Opening all
    go Unknown c k more = absurd c
    go (Array m) c k more = more none
    go (Loop f l q o) c k more = record { rs = rs; none = none; f = f; l = l; q = q; o = o; clear = c; onward = k }
    go (Read q o) c k more = absurd (omega (arith, c.0, none))
    go (Constant m) c k more = absurd (omega (arith, c.0, none))
    go (Operation o) c k more = absurd (omega (arith, c.0, none))
    go End c k more = absurd (omega (arith, c.0, none))
    go (Statement q o) c k more = absurd (omega (arith, c.0, none))

pub opening : (all : List Record) → Onward [] all → Opening all
unfolding summary blank
opening all h = first-loop [] all h refl

-- once there is a loop no array follows, and loops are never fewer
opened : (rs : List Record) (r : Record) → Clear r (summary rs) (lengths rs) → 0 < (summary rs).loops
    → ((summary rs).loops ≤ (summary (r ∷ rs)).loops) × (lengths (r ∷ rs) ≡ lengths rs)
unfolding summary advanced with_loop with_item with_statement lengths
opened rs Unknown c h = absurd c
opened rs (Array m) c h = absurd (omega (arith, c.0))
opened rs (Loop f l q o) c h = (omega arith, refl)
opened rs (Read q o) c h = (omega arith, refl)
opened rs (Constant m) c h = (omega arith, refl)
opened rs (Operation o) c h = (omega arith, refl)
opened rs End c h = (omega arith, refl)
opened rs (Statement q o) c h = (omega arith, refl)

pub onward-opened : (rs all : List Record) → Onward rs all → 0 < (summary rs).loops
    → ((summary rs).loops ≤ (summary all).loops) × (lengths all ≡ lengths rs)
onward-opened rs all (ends c) h = (omega arith, refl)
onward-opened rs all (goes {r} c o k) h =
    let (more, same) = opened rs r c h in
    let (most, still) = onward-opened (r ∷ rs) all k (omega arith) in
    (omega arith, still ∙ same)

-- an accepted table has a loop, and its last body is finished
pub onward-end : (rs all : List Record) → Onward rs all → (0 < (summary all).loops) × ((summary all).waiting ≡ 1)
onward-end rs all (ends c) = c
onward-end rs all (goes {r} c o h) = onward-end (r ∷ rs) all h

-- SIDE BY SIDE, from the first loop on
-- the summaries t and u, the arrays' lengths ns and ms, and the loops if items and statements follow, where the second has the loops
-- ls more
pub record Beside (ls : List LoopOf) (t u : Summary) (ns ms : List ℕ) (own both : List Item → List StatementOf → List LoopOf) : Type 0 where
  pub some : 0 < t.loops
  pub arrays : u.arrays ≡ t.arrays
  pub lens : ms ≡ ns
  pub loops : u.loops ≡ length ls + t.loops
  pub first : u.first ≡ t.first
  pub last : u.last ≡ t.last
  pub statements : u.statements ≡ t.statements
  pub items : u.items ≡ t.items
  pub waiting : u.waiting ≡ t.waiting
  pub table : (xs : List Item) (ss : List StatementOf) → both xs ss ≡ ls ++ own xs ss

-- one item more
beside-item : (ls : List LoopOf) (t u : Summary) (ns ms : List ℕ) (own both : List Item → List StatementOf → List LoopOf) → Beside ls t u ns ms own both
    → (x : Item) (v w : ℕ) → w ≡ v → Beside ls (with_item v t) (with_item w u) ns ms (λ xs. own (x ∷ xs)) (λ xs. both (x ∷ xs))
unfolding with_item
beside-item ls t u ns ms own both b x v w e = record {
  some = b.some;
  arrays = b.arrays;
  lens = b.lens;
  loops = b.loops;
  first = b.first;
  last = b.last;
  statements = b.statements;
  items = ap (λ n. n + 1) b.items;
  waiting = e;
  table = λ xs ss. b.table (x ∷ xs) ss;
}

module _ (ls : List LoopOf) where
  -- after the records rs of the table by itself, and qs
  abbrev pub Behind : List Record → List Record → Type 0
  Behind rs qs = Beside ls (summary rs) (summary qs) (lengths rs) (lengths qs) (loops_of rs) (loops_of qs)

  pub behind-first : (rs qs : List Record) (f l q o : ℕ) → (summary rs).loops ≡ 0 → lengths qs ≡ lengths rs → loops_of qs [] [] ≡ ls
      → Behind (Loop f l q o ∷ rs) (Loop f l q o ∷ qs)
  unfolding summary advanced with_loop lengths loops_of
  behind-first rs qs f l q o none same own = record {
    some = omega arith;
    arrays = sym (arrays-counted qs) ∙ ap length same ∙ arrays-counted rs;
    lens = same;
    loops = omega (arith, loops-counted qs [] [], ap length own);
    first = refl;
    last = refl;
    statements = refl;
    items = refl;
    waiting = refl;
    table = λ xs ss. rw (own, no_loop_lem rs none);
  }

  module _ (rs qs : List Record) (b : Behind rs qs) where
    -- a record that is clear in the one is clear in the other, if there is room for the loops
    pub behind-clear : (r : Record) → Clear r (summary rs) (lengths rs) → (summary (r ∷ qs)).loops ≤ 16 → Clear r (summary qs) (lengths qs)
    unfolding summary advanced with_loop
    behind-clear Unknown c h = c
    behind-clear (Array n) c h = absurd (omega (arith, b.some, c.0))
    behind-clear (Loop f l q o) c h =
        rw (b.arrays, b.lens) (omega (arith, b.waiting, c.0), omega arith, c.2, c.3, c.4, c.5, c.6)
    behind-clear (Read q o) c h =
        rw (b.arrays, b.lens, b.first, b.last, b.items, b.waiting) (omega (arith, b.some, b.loops), c.1, c.2, c.3, c.4, c.5)
    behind-clear (Constant n) c h = rw (b.items, b.waiting) (omega (arith, b.some, b.loops), c.1, c.2)
    behind-clear (Operation o) c h = rw (b.items, b.waiting) (omega (arith, b.some, b.loops), c.1, c.2, c.3, c.4)
    behind-clear End c h = rw b.waiting (omega (arith, b.some, b.loops), c.1)
    behind-clear (Statement q o) c h =
        rw (b.arrays, b.lens, b.first, b.last, b.statements, b.waiting) (omega (arith, b.some, b.loops), c.1, c.2, c.3, c.4, c.5)

    item-more : (x : Item) (v w : ℕ) → w ≡ v
        → Beside ls (with_item v (summary rs)) (with_item w (summary qs)) (lengths rs) (lengths qs) (λ xs. loops_of rs (x ∷ xs)) (λ xs. loops_of qs (x ∷ xs))
    item-more = beside-item ls (summary rs) (summary qs) (lengths rs) (lengths qs) (loops_of rs) (loops_of qs) b

    pub behind_more : (r : Record) → Clear r (summary rs) (lengths rs) → (r ≡ End → ⊥) → Behind (r ∷ rs) (r ∷ qs)
    unfolding summary advanced with_loop with_item with_statement lengths loops_of
    behind_more Unknown c e = absurd c
    behind_more (Array n) c e = absurd (omega (arith, b.some, c.0))
    behind_more (Loop f l q o) c e = record {
      some = omega arith;
      arrays = b.arrays;
      lens = b.lens;
      loops = omega (arith, b.loops);
      first = refl;
      last = refl;
      statements = refl;
      items = refl;
      waiting = refl;
      table = λ xs ss. rw (b.table [] [], append_assoc);
    }
    behind_more (Read q o) c e = item-more (read q o) _ _ (ap (λ n. n + 1) b.waiting)
    behind_more (Constant n) c e = item-more (constant n) _ _ (ap (λ n. n + 1) b.waiting)
    behind_more (Operation o) c e = item-more (operation o) _ _ (ap (λ n. n - operands o + 1) b.waiting)
    behind_more End c e = absurd (e refl)
    behind_more (Statement q o) c e = record {
      some = b.some;
      arrays = b.arrays;
      lens = b.lens;
      loops = b.loops;
      first = b.first;
      last = b.last;
      statements = ap (λ n. n + 1) b.statements;
      items = b.items;
      waiting = refl;
      table = λ xs ss. b.table [] (record { array = q; offset = o; items = xs } ∷ ss);
    }
