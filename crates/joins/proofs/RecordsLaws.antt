-- The records of a table, as they are read one by one.
use Rattle.std.specs.Prelude.{ℕ, ◌<◌, ◌≡◌, refl, length}
use Rattle.std.proofs.Common.{arith, ◌∙◌}
use Rattle.std.proofs.Math.Path.{sym, ap}
use mathlib.Core.List.{List, [], ◌∷◌, ◌++◌, append_assoc, append-nil}
use Rattle.records.specs.declared.Record.{Record}
use Rattle.records.specs.declared.Record.TheVariants.{Unknown, Array, Loop, Read, Constant, Operation, End, Statement}
use Rattle.records.specs.History.{summary, lengths, advanced, blank, with_array, with_loop, with_item, with_statement}
use Rattle.records.specs.Clear.{Clear}
use Rattle.model.specs.Table.{Item, read, constant, operation}
use Rattle.model.specs.Table.{Statement as StatementOf, Loop as LoopOf}
use Rattle.reader.specs.Reading.{loops_of}
use Rattle.reader.specs.Accepting.{loops-counted}
use Rattle.joins.specs.Records.{array_records, item_records, statement_records, loop_records}

-- ROWS ONE AFTER THE OTHER
arrays-append : (ns ms : List ℕ) → array_records (ns ++ ms) ≡ array_records ns ++ array_records ms
unfolding array_records
arrays-append [] ms = refl
arrays-append (n ∷ ns) ms = ap (λ (l : List Record). Array n ∷ l) (arrays-append ns ms)

pub loops-append : (ls ms : List LoopOf) → loop_records (ls ++ ms) ≡ loop_records ls ++ loop_records ms
unfolding loop_records
loops-append [] ms = refl
loops-append (l ∷ ls) ms = rw (loops-append ls ms, append_assoc)

-- THE RECORDS THAT HAVE BEEN READ, in their order
abbrev pub before : List Record → List Record
before rs = array_records (lengths rs) ++ loop_records (loops_of rs [] [])

pub no_loop_lem : (rs : List Record) → (summary rs).loops ≡ 0 → loops_of rs [] [] ≡ []
no_loop_lem rs e = go (loops_of rs [] []) (loops-counted rs [] [] ∙ e)
  where
    go : (l : List LoopOf) → length l ≡ 0 → l ≡ []
    go [] h = refl
    go (x ∷ l) h = absurd (omega arith)

-- the records of items and further statements
abbrev tail_of : List Item → List StatementOf → List Record
tail_of xs ss = item_records xs ++ statement_records ss

-- a loop more
last-loop : (ls : List LoopOf) (f l q o : ℕ) (xs : List Item) (ss : List StatementOf)
    → loop_records (ls ++ (record { first = f; last = l; body = record { array = q; offset = o; items = xs } ∷ ss } ∷ []))
    ≡ loop_records ls ++ (Loop f l q o ∷ tail_of xs ss)
unfolding loop_records
last-loop ls f l q o xs ss =
    loops-append ls (record { first = f; last = l; body = record { array = q; offset = o; items = xs } ∷ ss } ∷ [])
    ∙ ap (λ (r : List Record). loop_records ls ++ r) (append-nil (Loop f l q o ∷ tail_of xs ss))

-- a record more, and what follows it
one_more : (before all some rest : List Record) (r : Record) → all ≡ before ++ (r ∷ rest) → some ≡ before ++ (r ∷ []) → all ≡ some ++ rest
one_more before all some rest r e f = rw (e, f) (sym (append_assoc before (r ∷ []) rest))

-- items and statements that follow are those of the latest loop
tail_more : (rs : List Record) (xs : List Item) (ss : List StatementOf) → 0 < (summary rs).loops
    → loop_records (loops_of rs xs ss) ≡ loop_records (loops_of rs [] []) ++ tail_of xs ss
unfolding summary advanced blank with_array with_loop with_item with_statement loops_of loop_records item_records statement_records
tail_more [] xs ss h = absurd (omega arith)
tail_more (Unknown ∷ rs) xs ss h = tail_more rs xs ss h
tail_more (Array n ∷ rs) xs ss h = tail_more rs xs ss h
tail_more (Loop f l q o ∷ rs) xs ss h =
    one_more (loop_records (loops_of rs [] [])) _ _ (tail_of xs ss) (Loop f l q o) (last-loop (loops_of rs [] []) f l q o xs ss)
    (last-loop (loops_of rs [] []) f l q o [] [])
tail_more (Read q o ∷ rs) xs ss h =
    one_more (loop_records (loops_of rs [] [])) _ _ (tail_of xs ss) (Read q o) (tail_more rs (read q o ∷ xs) ss h) (tail_more rs (read q o ∷ []) [] h)
tail_more (Constant n ∷ rs) xs ss h =
    one_more (loop_records (loops_of rs [] [])) _ _ (tail_of xs ss) (Constant n) (tail_more rs (constant n ∷ xs) ss h) (tail_more rs (constant n ∷ []) [] h)
tail_more (Operation o ∷ rs) xs ss h =
    one_more (loop_records (loops_of rs [] [])) _ _ (tail_of xs ss) (Operation o) (tail_more rs (operation o ∷ xs) ss h) (tail_more rs (operation o ∷ []) [] h)
tail_more (End ∷ rs) xs ss h = tail_more rs xs ss h
tail_more (Statement q o ∷ rs) xs ss h =
    one_more (loop_records (loops_of rs [] [])) _ _ (tail_of xs ss) (Statement q o)
    (tail_more rs [] (record { array = q; offset = o; items = xs } ∷ ss) h) (tail_more rs [] (record { array = q; offset = o; items = [] } ∷ []) h)

-- one record more, which is clear
module _ (rs : List Record) where
  tail-last : (xs : List Item) (ss : List StatementOf) → 0 < (summary rs).loops
      → array_records (lengths rs) ++ loop_records (loops_of rs xs ss) ≡ before rs ++ tail_of xs ss
  tail-last xs ss h =
      ap (λ (l : List Record). array_records (lengths rs) ++ l) (tail_more rs xs ss h)
      ∙ sym (append_assoc (array_records (lengths rs)) (loop_records (loops_of rs [] [])) (tail_of xs ss))

  arrays-alone : (ns : List ℕ) → (summary rs).loops ≡ 0 → array_records ns ++ loop_records (loops_of rs [] []) ≡ array_records ns
  unfolding loop_records
  arrays-alone ns h = rw (no_loop_lem rs h) (append-nil (array_records ns))

  pub before_more : (r : Record) → Clear r (summary rs) (lengths rs) → (r ≡ End → ⊥) → before (r ∷ rs) ≡ before rs ++ (r ∷ [])
  unfolding lengths loops_of array_records item_records statement_records
  before_more Unknown c o = absurd c
  before_more (Array n) c o =
      arrays-alone (lengths rs ++ (n ∷ [])) c.0
      ∙ arrays-append (lengths rs) (n ∷ [])
      ∙ ap (λ (l : List Record). l ++ (Array n ∷ [])) (sym (arrays-alone (lengths rs) c.0))
  before_more (Loop f l q a) c o =
      ap (λ (l : List Record). array_records (lengths rs) ++ l) (last-loop (loops_of rs [] []) f l q a [] [])
      ∙ sym (append_assoc (array_records (lengths rs)) (loop_records (loops_of rs [] [])) (Loop f l q a ∷ []))
  before_more (Read q a) c o = tail-last (read q a ∷ []) [] c.0
  before_more (Constant n) c o = tail-last (constant n ∷ []) [] c.0
  before_more (Operation a) c o = tail-last (operation a ∷ []) [] c.0
  before_more End c o = absurd (o refl)
  before_more (Statement q a) c o = tail-last [] (record { array = q; offset = a; items = [] } ∷ []) c.0
