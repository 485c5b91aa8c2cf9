-- Where two iterations meet at a dependence, a legal fusion's reaches lie one inside the other. Assumes nothing.
use Rattle.std.proofs.Common.{arith}
use Rattle.model.specs.declared.Iteration.{Iteration}
use Rattle.model.specs.declared.Reference.{Reference}
use Rattle.model.specs.Table.{Table}
use Rattle.model.specs.References.{Meet}
use Rattle.chains.specs.Dependence.{backward, forward}
use Rattle.blocks.specs.Index.{Contained}
use Rattle.blocks.specs.Index.{contained as contained-by}
use Rattle.lists.specs.Fusion.{Fusion}
use Rattle.rows.specs.Legal.{Depends, Legal}

module _ (Counts : Reference → Reference → Type 0) (t : Table) where
  -- where two iterations meet at a dependence, the reach of the earlier lies inside that of the later
  pub contained : (c : Fusion) → Legal Counts t c → (x y : Iteration) (r q : Reference) → Depends Counts t x.number y.number r q
      → Meet x.index y.index r q
      → Contained (c.shift x.number) (c.peel x.number) x.index (c.shift y.number) (c.peel y.number) y.index
  contained c ok x y r q d m =
      contained-by _ _ x.index _ _ y.index (backward r q) (forward r q) (omega (arith, m.1)) (omega (arith, ok.shifted x.number y.number r q d))
      (omega (arith, ok.peeled x.number y.number r q d))
