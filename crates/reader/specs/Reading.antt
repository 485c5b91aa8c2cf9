-- The reading of a table: records from left to right, each tested after those before it.
use Rattle.std.specs.Prelude.{ℕ, zero, suc, List, [], ◌∷◌, ◌++◌, length, ltb}
use Rattle.refusals.specs.Refusals.{met}
use Rattle.refusals.specs.Answers.{AnswerOf, accepted, refused, ◌if◌else◌}
use Rattle.records.specs.declared.Record.{Record}
use Rattle.records.specs.declared.Record.TheVariants.{Unknown, Array, Loop, Read, Constant, Operation, End, Statement}
use Rattle.records.specs.declared.Tested.{Tested}
use Rattle.records.specs.declared.Tested.TheVariants.{Refused, Passed, Ended}
use Rattle.records.specs.History.{summary, lengths}
use Rattle.records.specs.Grounds.{tested}
use Rattle.model.specs.Table.{Item, read, constant, operation, Table}
use Rattle.model.specs.Table.{Statement as StatementOf, Loop as LoopOf}

-- the loops of the records before a place, the latest record first; xs are the items that follow in the statement, and ss the statements
-- that follow in the loop
unfoldable pub loops_of : List Record → List Item → List StatementOf → List LoopOf
loops_of [] xs ss = []
loops_of (Unknown ∷ rs) xs ss = loops_of rs xs ss
loops_of (Array n ∷ rs) xs ss = loops_of rs xs ss
loops_of (Loop f l q o ∷ rs) xs ss =
    loops_of rs [] [] ++ (record { first = f; last = l; body = record { array = q; offset = o; items = xs } ∷ ss } ∷ [])
loops_of (Read q o ∷ rs) xs ss = loops_of rs (read q o ∷ xs) ss
loops_of (Constant n ∷ rs) xs ss = loops_of rs (constant n ∷ xs) ss
loops_of (Operation o ∷ rs) xs ss = loops_of rs (operation o ∷ xs) ss
loops_of (End ∷ rs) xs ss = loops_of rs xs ss
loops_of (Statement q o ∷ rs) xs ss = loops_of rs [] (record { array = q; offset = o; items = xs } ∷ ss)

-- the table that records make
abbrev pub table_of : List Record → Table
table_of rs = record { lengths = lengths rs; loops = loops_of rs [] [] }

abbrev pub Answer : Type 0
Answer = AnswerOf Table

-- after the tests of the record at a place: a ground refuses there; past the end record bytes left over are 8
unfoldable pub follow : List ℕ → List Record → (Record → ℕ → Answer) → Tested → Answer
follow s rs more (Refused r) = refused r
follow s rs more (Passed r n) = more r n
follow s rs more (Ended n) = refused (met 8 n) if ltb n (length s) else accepted (table_of rs)

-- from a place on, after the records rs
unfoldable pub read_from : ℕ → List ℕ → ℕ → List Record → Answer
read_from zero s at rs = refused (met 1 at)
read_from (suc f) s at rs = follow s rs (λ r n. read_from f s n (r ∷ rs)) (tested s at (summary rs) (lengths rs))

-- every record has a byte, so the length and one more bounds the number of records
unfoldable pub reading : List ℕ → Answer
reading s = read_from (suc (length s)) s 0 []
