use Prim.Native.Nat.{suc, ◌-◌}
use Rattle.lists.specs.Fusion.{fusion_in}
use Rattle.numbers.specs.Pairs.{Rowed}
use Rattle.entries.proofs.write_blocks.Given as goal

abbrev pub invariant-loop-b : goal.invariant-loop-b
invariant-loop-b l =
    Rowed (fusion_in l.a).edge (λ j. (fusion_in l.a).edge (suc j) - 1) l.a.blocks l.initial.row l.b l.row
