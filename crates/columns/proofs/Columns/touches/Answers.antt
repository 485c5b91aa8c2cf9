use Rattle.columns.specs.ColumnLaws.{pair-test}
use Rattle.columns.proofs.Columns.touches.Goals as goal

-- `touches` meets its contract: the test of a pair.
pub returns : goal.returns
returns c = let p = c.requires in rw p.3 (pair-test c.args.self.now c.args.x c.args.y p.1 p.2)
