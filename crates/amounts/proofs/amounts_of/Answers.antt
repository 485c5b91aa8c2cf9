use Rattle.amounts.proofs.Laws.{walked-amounts}
use Rattle.amounts.proofs.amounts_of.Goals as goal

-- `amounts_of` meets its contract: what the steps leave are the largest totals.
pub returns : goal.returns
returns c =
    let both = walked-amounts c.requires _ _ _ c.walk.ensures in
    record { shifts_value = both.0; peels_value = both.1 }
