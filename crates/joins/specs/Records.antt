-- A table as a row of records: arrays come first, then each loop with its body items and further statements, then one end.
use Rattle.std.specs.Prelude.{ℕ, List, [], ◌∷◌, ◌++◌}
use Rattle.records.specs.declared.Record.{Record}
use Rattle.records.specs.declared.Record.TheVariants.{Array, Loop, Read, Constant, Operation, End, Statement}
use Rattle.model.specs.Table.{Item, read, constant, operation, Table}
use Rattle.model.specs.Table.{Statement as StatementOf, Loop as LoopOf}

-- arrays, by their lengths
unfoldable pub array_records : List ℕ → List Record
array_records [] = []
array_records (n ∷ ns) = Array n ∷ array_records ns

-- the items of a body
unfoldable pub item_records : List Item → List Record
item_records [] = []
item_records (read q o ∷ xs) = Read q o ∷ item_records xs
item_records (constant n ∷ xs) = Constant n ∷ item_records xs
item_records (operation o ∷ xs) = Operation o ∷ item_records xs

-- further statements, each with its items
unfoldable pub statement_records : List StatementOf → List Record
statement_records [] = []
statement_records (s ∷ b) = Statement s.array s.offset ∷ (item_records s.items ++ statement_records b)

-- a loop: its first statement, then the further ones
abbrev pub body_records : ℕ → ℕ → List StatementOf → List Record
body_records first last [] = []
body_records first last (s ∷ b) = Loop first last s.array s.offset ∷ (item_records s.items ++ statement_records b)

-- loops, each with its body items and further statements
unfoldable pub loop_records : List LoopOf → List Record
loop_records [] = []
loop_records (l ∷ ls) = body_records l.first l.last l.body ++ loop_records ls

unfoldable pub records_of : Table → List Record
records_of t = array_records t.lengths ++ (loop_records t.loops ++ (End ∷ []))
