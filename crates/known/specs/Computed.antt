-- What the definitions tell of a table's bytes, with everything unfolded that has to be computed.
use Rattle.std.specs.Prelude.{ℕ, suc, ◌-◌, List, [], ◌∷◌, ◌++◌, take}
use Rattle.records.specs.Bytes.{two, four, offset, kind_of, body_length, record_of, record_at}
use Rattle.records.specs.Grounds.{early, edge, fields, ground, passed, tested}
use Rattle.records.specs.History.{operands, with_array, with_loop, with_item, with_statement, advanced, blank, summary, lengths}
use Rattle.model.specs.declared.Iteration.{Iteration}
use Rattle.model.specs.Table.{count}
use Rattle.refusals.specs.declared.Refusal.{Refusal}
use Rattle.refusals.specs.Answers.{AnswerOf, accepted, refused, refusal_of}
use Rattle.reader.specs.Reading.{loops_of, follow, read_from, reading}
use Rattle.serial.specs.Serial.{collides, hit, pair_hit, loop_hit, serial_from, through, table}
use Rattle.chains.specs.Dependence.{dependence}
use Rattle.chains.specs.TableGraph.{graph}
use Rattle.chains.specs.Walk.{required, raised, walk, numbers, shifts, peels}
use Rattle.chains.specs.Steps.{Pair, steps, walked}
use Rattle.chains.specs.Threshold.{threshold}
use Rattle.chains.specs.Unmet.{least_from, unmet, least_unmet}
use Rattle.blocks.specs.Span.{span_of}
use Rattle.blocks.specs.Blocks.{lines, size, start, before, is_short}
use Rattle.blocks.specs.Parts.{fused_part, peeled_part}
use Rattle.lists.specs.Lists.{loop_at, sum_at, sum_bound, by_sums, loop_over, by_loops}
use Rattle.lists.specs.Fusion.{fused_list, peeled_list}
use Rattle.legality.specs.Written.{filled_from}
use Rattle.legality.specs.ByHand.{judged, by_hand}
use Rattle.plans.specs.Plans.{Planned, settings, threshold_of, amounts_for, fitting, planned}
use Rattle.marks.specs.Marks.{count_from}
use Rattle.sweeps.specs.Sweeps.{some}
use Rattle.text.specs.Decimal.{decimal, digits}
use Rattle.text.specs.Line.{line}
use Rattle.listing.specs.Listing.{listing, refusal_line}
use Rattle.printing.specs.Printing.{text_of, text}

-- the refusal of a table, 1 to 9; `none` where it is accepted
unfoldable pub refusal : List ℕ → Refusal
unfolding table through serial_from loop_hit pair_hit hit collides reading read_from follow loops_of tested ground early fields passed edge two four offset
    kind_of body_length record_of record_at operands with_array with_loop with_item with_statement advanced blank summary lengths
refusal s = refusal_of (table s)

-- that of a plan for P processors, 1 to 11, lines having one index
unfoldable pub refusal_for : List ℕ → ℕ → Refusal
unfolding refusal planned fitting amounts_for by_hand judged filled_from least_unmet unmet least_from dependence required raised walk numbers threshold span_of lines size start before is_short
refusal_for s P = refusal_of (planned s (settings P))

-- what f says of what is accepted; of a refusal nothing
abbrev pub told : {T A : Type 0} → (T → List A) → AnswerOf T → List A
told f (accepted t) = f t
told f (refused r) = []

-- the shift of each loop, the peel of each loop, the threshold; the size of each of three blocks
abbrev pub shifts_in : List ℕ → List ℕ
shifts_in s = told (λ t. take (count t) (shifts (graph t))) (table s)

abbrev pub peels_in : List ℕ → List ℕ
peels_in s = told (λ t. take (count t) (peels (graph t))) (table s)

abbrev pub threshold_in : List ℕ → List ℕ
threshold_in s = told (λ t. threshold_of t ∷ []) (table s)

-- the steps of the walk over pairs: of each the position of its earlier and of its later reference; what they leave, with their count
abbrev places : {R : Type 0} → List (Pair R) → List ℕ
places [] = []
places (p ∷ ps) = p.earlier.position ∷ p.later.position ∷ places ps

abbrev pub steps_in : List ℕ → List ℕ
steps_in s = told (λ t. places (steps (graph t))) (table s)

abbrev pub walk_in : List ℕ → List ℕ
walk_in s = told (λ t. take (count t) (walked (graph t)).shifts ++ take (count t) (walked (graph t)).peels ++ ((walked (graph t)).made ∷ [])) (table s)

abbrev block_size : Planned → ℕ → ℕ
block_size q b = q.plan.edge (suc b) - q.plan.edge b

abbrev pub sizes_in : List ℕ → List ℕ
sizes_in s = told (λ q. block_size q 0 ∷ block_size q 1 ∷ block_size q 2 ∷ []) (planned s (settings 3))

-- processor b's lists, for P processors
unfoldable pub fused_in : List ℕ → ℕ → ℕ → List Iteration
unfolding refusal_for fused_part loop_at sum_at sum_bound by_sums
fused_in s P b = told (λ q. fused_list q.table q.plan b) (planned s (settings P))

unfoldable pub peeled_in : List ℕ → ℕ → ℕ → List Iteration
unfolding refusal_for peeled_part loop_over by_loops
peeled_in s P b = told (λ q. peeled_list q.table q.plan b) (planned s (settings P))

-- its listing, or the line of its refusal
unfoldable pub listed : List ℕ → ℕ → List ℕ
unfolding fused_in peeled_in text text_of some count_from listing refusal_line line decimal digits
listed s P = text s (settings P)
