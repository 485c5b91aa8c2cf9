-- The records before a place, the latest first, and what the tests look at in them.
use Rattle.std.specs.Prelude.{ℕ, ◌+◌, ◌-◌, cond, List, [], ◌∷◌, ◌++◌, eqb}
use Rattle.records.specs.declared.Record.{Record}
use Rattle.records.specs.declared.Record.TheVariants.{Unknown, Array, Loop, Read, Constant, Operation, End, Statement}
use Rattle.records.specs.declared.Summary.{Summary}

-- how many waiting numbers an operation takes: 5, negate, takes one
unfoldable pub operands : ℕ → ℕ
operands o = cond (eqb o 5) 1 2

-- one array more; a new loop, with one statement, whose body is empty; one item more in the latest body; one statement more in the latest loop
unfoldable pub with_array : ℕ → Summary → Summary
with_array n t = record {
  arrays = t.arrays + 1;
  elements = t.elements + n;
  loops = t.loops;
  first = t.first;
  last = t.last;
  statements = t.statements;
  items = t.items;
  waiting = t.waiting;
}

unfoldable pub with_loop : ℕ → ℕ → Summary → Summary
with_loop first last t = record {
  arrays = t.arrays;
  elements = t.elements;
  loops = t.loops + 1;
  first = first;
  last = last;
  statements = 1;
  items = 0;
  waiting = 0;
}

unfoldable pub with_item : ℕ → Summary → Summary
with_item waiting t = record {
  arrays = t.arrays;
  elements = t.elements;
  loops = t.loops;
  first = t.first;
  last = t.last;
  statements = t.statements;
  items = t.items + 1;
  waiting = waiting;
}

unfoldable pub with_statement : Summary → Summary
with_statement t = record {
  arrays = t.arrays;
  elements = t.elements;
  loops = t.loops;
  first = t.first;
  last = t.last;
  statements = t.statements + 1;
  items = t.items;
  waiting = 0;
}

-- what a record adds: a read or a constant adds a waiting number, an operation takes one or two and adds one
unfoldable pub advanced : Record → Summary → Summary
advanced Unknown t = t
advanced (Array n) t = with_array n t
advanced (Loop f l q o) t = with_loop f l t
advanced (Read q o) t = with_item (t.waiting + 1) t
advanced (Constant n) t = with_item (t.waiting + 1) t
advanced (Operation o) t = with_item (t.waiting - operands o + 1) t
advanced End t = t
advanced (Statement q o) t = with_statement t

-- before the first record. (One waits: no body is unfinished. 4 statements and 32 items: no loop has room.)
unfoldable pub blank : Summary
blank = record { arrays = 0; elements = 0; loops = 0; first = 0; last = 0; statements = 4; items = 32; waiting = 1 }

-- the counts of arrays, elements and loops; the latest loop's first and last, its statements and items, and how many numbers wait in its latest statement
unfoldable pub summary : List Record → Summary
summary [] = blank
summary (r ∷ rs) = advanced r (summary rs)

-- the arrays' lengths, in their order
unfoldable pub lengths : List Record → List ℕ
lengths [] = []
lengths (Unknown ∷ rs) = lengths rs
lengths (Array n ∷ rs) = lengths rs ++ (n ∷ [])
lengths (Loop f l q o ∷ rs) = lengths rs
lengths (Read q o ∷ rs) = lengths rs
lengths (Constant n ∷ rs) = lengths rs
lengths (Operation o ∷ rs) = lengths rs
lengths (End ∷ rs) = lengths rs
lengths (Statement q o ∷ rs) = lengths rs
