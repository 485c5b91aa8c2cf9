use Rattle.std.proofs.Common.{refl}
use Rattle.layouts.proofs.Laws.{ends-put}
use Rattle.layouts.proofs.put_end.Goals as goal

pub returns : goal.returns
returns c =
    let m = c.lengths_of-l.ensures.measures in
    ends-put c.args.a.now c.args.store.now c.args.b c.args.ends.now _ _ _ _ refl m.fused-is m.peeled-is refl
