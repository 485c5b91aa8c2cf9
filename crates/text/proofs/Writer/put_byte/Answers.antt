use Rattle.std.proofs.Common.{rules, arith}
use Rattle.std.proofs.lemmas.Grind.{common_steps}
use Rattle.text.specs.Puts.{puts-one}
use Rattle.text.proofs.Writer.put_byte.Goals as goal

pub returns : goal.returns
returns c = puts-one _ (search rules) (grind (arith, common_steps)) (search rules)
