use Rattle.std.proofs.Common.{arith}
use Rattle.text.proofs.Laws.{digit-alone, digit-after, front-few}
use Rattle.text.proofs.Writer.+put_decimal.Goals as goal

pub returns-then-x-lt10 : goal.returns-then-x-lt10
returns-then-x-lt10 t c = digit-alone c.args.x c.if-x-lt10.true c.put_byte.ensures

pub put_byte-requires-2 : goal.put_byte-requires-2
put_byte-requires-2 t c = omega (arith, c.requires, front-few c.args.x c.ranges.x.fits c.put_decimal.ensures)

pub returns : goal.returns
returns t c = digit-after c.args.x c.ranges.x.fits c.put_decimal.ensures c.if-x-lt10.false c.put_byte-2.ensures
