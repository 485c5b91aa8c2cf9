use Rattle.text.proofs.Laws.{field_put}
use Rattle.text.proofs.Writer.put_field.Goals as goal

pub returns : goal.returns
returns c = field_put c.args.x c.put_byte.ensures c.put_decimal.ensures
