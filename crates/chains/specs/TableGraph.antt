-- The dependence graph of a table: the references of all its loops.
use Rattle.std.specs.Prelude.{◌≡◌, true, ◌<◌, ltb}
use Rattle.std.proofs.Common.{ltb-true}
use Rattle.overlap.specs.Booleans.{both_true}
use Rattle.model.specs.declared.Reference.{Reference}
use Rattle.model.specs.Table.{Table}
use Rattle.model.specs.References.{all_refs}
use Rattle.chains.specs.Graph.{Graph}
use Rattle.chains.specs.Dependence.{dependence}

-- the one law of a dependence that chains and the walk need; it asks nothing but that the test of the loops comes first
pub earlier : (t : Table) (x y : Reference) → dependence t x y ≡ true → x.number < y.number
unfolding dependence
earlier t x y e = ltb-true _ _ (both_true (ltb x.number y.number) _ e).0

abbrev pub graph : Table → Graph Reference
graph t = record { references = all_refs t; number = λ r. r.number; depends = dependence t; earlier = earlier t }
