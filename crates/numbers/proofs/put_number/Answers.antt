use Rattle.std.proofs.Common.{rules}
use Rattle.numbers.specs.Numbers.{four}
use Rattle.numbers.proofs.put_number.Goals as goal

pub returns : goal.returns
unfolding four
returns c = search rules
