use borrow.Author.Rules.{rules}
use Rattle.records.proofs.ClearLaws.{span-kind, length-max}
use Rattle.decoding.proofs.record_at.Goals as goal

pub overflow_add-at-2 : goal.overflow_add-at-2
overflow_add-at-2 c = search (rules, length-max)

pub record_of-r-requires : goal.record_of-r-requires
record_of-r-requires c = search (rules, span-kind)
