use Rattle.reader.specs.Store.{table_in}
use Rattle.plans.proofs.Laws.{own-chosen-is}
use Rattle.plans.proofs.chosen.Goals as goal

pub returns-in-None : goal.returns-in-None
returns-in-None c = λ w o.
    own-chosen-is w (table_in c.args.store.now) (rw c.in-None.is at o) c.amounts_of.result c.amounts_of.ensures.shifts_value c.amounts_of.ensures.peels_value
