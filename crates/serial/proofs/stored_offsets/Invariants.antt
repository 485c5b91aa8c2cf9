use Prim.Native.Nat.{◌≤◌}
use Rattle.serial.specs.Rows.{StoredAt}
use Rattle.serial.proofs.stored_offsets.Given as goal

-- `stored_offsets` meets its contract. The invariant: the offsets are those of the rows before `row`.
abbrev pub invariant-loop-row : goal.invariant-loop-row
invariant-loop-row l = StoredAt l.store l.from l.row l.offsets × (l.from ≤ l.row) × (l.row ≤ l.past)
