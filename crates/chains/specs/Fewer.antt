-- The dependences of a table as they are where loops' bounds play no part.
use Rattle.std.specs.Prelude.{◌&&◌, ltb}
use Rattle.std.proofs.Common.{ltb-true}
use Rattle.model.specs.declared.Reference.{Reference}
use Rattle.model.specs.Table.{Table}
use Rattle.model.specs.References.{touch, all_refs}
use Rattle.overlap.specs.Booleans.{both_true}
use Rattle.chains.specs.Graph.{Graph}

-- the table's references where bounds play no part
abbrev pub without_bounds : Table → Graph Reference
without_bounds t = record {
  references = all_refs t;
  number = λ r. r.number;
  depends = λ x y. ltb x.number y.number && touch x y;
  earlier = λ x y e. ltb-true x.number y.number (both_true (ltb x.number y.number) (touch x y) e).0;
}
