use Rattle.text.specs.Puts.{puts_then}
use Rattle.numbers.proofs.put_pair.Goals as goal

pub returns : goal.returns
returns c = puts_then c.put_number.ensures c.put_number-2.ensures
