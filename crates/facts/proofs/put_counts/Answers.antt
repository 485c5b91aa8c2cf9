use Rattle.facts.proofs.Laws.{three-put}
use Rattle.facts.proofs.put_counts.Goals as goal

pub returns : goal.returns
returns c = three-put _ _ _ c.put_pair.ensures c.put_number.ensures
