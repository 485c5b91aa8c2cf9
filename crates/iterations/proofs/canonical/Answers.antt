use mathlib.Core.Path.{sym, subst}
use lib.Dec.{T}
use lib.Ieee.{div, of_bits}
use lib.Ieee.Compare.{differs_from_itself}
use Rattle.iterations.proofs.canonical.Goals as goal

pub returns-then-x : goal.returns-then-x
unfolding div of_bits
returns-then-x c = sym (differs_from_itself c.args.x (subst T (sym c.if-x.true) tt))
