-- The plan of a table: a shift and a peel for each loop, the table's own or those given by hand, and for P processors the blocks and lists that
-- follow. Grounds 10, 17 and 11; of a plan by hand 19 and 20 before them (legality's ByHand).
use Rattle.std.specs.Prelude.{ℕ, Bool, ◌||◌, List, eqb, ltb, leb, length, get_or, replicate}
use Rattle.model.specs.Table.{Table}
use Rattle.refusals.specs.Refusals.{met}
use Rattle.refusals.specs.Answers.{AnswerOf, accepted, refused, ◌if◌else◌, after}
use Rattle.reader.specs.Reading.{Answer}
use Rattle.serial.specs.Serial.{table}
use Rattle.chains.specs.TableGraph.{graph}
use Rattle.chains.specs.Walk.{shifts, peels}
use Rattle.chains.specs.Threshold.{threshold}
use Rattle.blocks.specs.Span.{table_span}
use Rattle.blocks.specs.Blocks.{is_short}
use Rattle.lists.specs.Fusion.{Fusion, fusion_of}
use Rattle.amounts.specs.declared.Amounts.{Amounts}
use Rattle.legality.specs.ByHand.{by_hand}
use Rattle.plans.specs.declared.Settings.{Settings as Struct}

-- what settles the lists beside the table: the count of processors P, the length W of a line, and where `given` is not 0 a plan by hand: its
-- `size` in bytes, and the bytes (in C `by_hand`, `plan_length`, `plan`)
abbrev pub Settings : Type 0
Settings = Struct

-- for P processors, lines of one index, the table's own shifts and peels, and nothing else
abbrev pub settings : ℕ → Settings
settings P = record { processors = P; line = 1; given = 0; size = 0; plan = replicate 128 0 }

-- with lines of W
abbrev pub on_lines : ℕ → Settings → Settings
on_lines W w = record { processors = w.processors; line = W; given = w.given; size = w.size; plan = w.plan }

-- with a plan by hand, whose bytes are bs; and with none
abbrev pub with_plan : List ℕ → Settings → Settings
with_plan bs w = record { processors = w.processors; line = w.line; given = 1; size = length bs; plan = bs }

abbrev pub without_plan : Settings → Settings
without_plan w = record { processors = w.processors; line = w.line; given = 0; size = w.size; plan = w.plan }

-- a table with its plan: shifts, peels, blocks and the count of processors, and so the lists of each phase (lists' Fusion)
pub record Planned : Type 0 where
  pub table : Table
  pub plan : Fusion

module _ (t : Table) where
  abbrev pub shift_of : ℕ → ℕ
  shift_of k = get_or (shifts (graph t)) k 0

  abbrev pub peel_of : ℕ → ℕ
  peel_of k = get_or (peels (graph t)) k 0

  -- the largest sum of shift and peel of one loop
  abbrev pub threshold_of : ℕ
  threshold_of = threshold (shifts (graph t)) (peels (graph t))

  -- the table's own shifts and peels
  abbrev pub own : Amounts
  own = record { shifts = shifts (graph t); peels = peels (graph t) }

  -- with the shifts and peels a
  module _ (a : Amounts) where
    abbrev pub plan_of : Settings → Fusion
    plan_of w = fusion_of t w.processors w.line (λ k. get_or a.shifts k 0) (λ k. get_or a.peels k 0)

    -- 11, of an accepted table, by their threshold
    abbrev pub short_for : Settings → Bool
    short_for w = is_short (table_span t).count w.line w.processors (threshold a.shifts a.peels)

-- outside 1 to the most
abbrev pub outside : ℕ → ℕ → Bool
outside most n = eqb n 0 || ltb most n

-- 10: P outside 1 to 64
abbrev pub bad_processors : Settings → Bool
bad_processors w = outside 64 w.processors

-- where a call names a processor, 10 is asked of P and then of that number, which must be below P
abbrev pub bad_number : Settings → ℕ → Bool
bad_number w b = bad_processors w || leb w.processors b

-- 17: W outside 1 to 64
abbrev pub bad_line : Settings → Bool
bad_line w = outside 64 w.line

-- the shifts and peels that are meant: where no plan is given the table's own, and else those by hand, or 19 or 20
unfoldable pub amounts_for : Settings → Table → AnswerOf Amounts
amounts_for w t = accepted (own t) if eqb w.given 0 else by_hand t w.size w.plan

-- 11, or the table with its plan
abbrev pub fits : Settings → Table → Amounts → AnswerOf Planned
fits w t a = refused (met 11 0) if short_for t a w else accepted (record { table = t; plan = plan_of t a w })

-- after 1 to 9: 19 and 20, then 10 where the processors are wrong, then 17, then 11
unfoldable pub fitting : Bool → Settings → Answer → AnswerOf Planned
fitting wrong w s =
    after s (λ t. after (amounts_for w t) (λ a. refused (met 10 0) if wrong else (refused (met 17 0) if bad_line w else fits w t a)))

unfoldable pub planned : List ℕ → Settings → AnswerOf Planned
planned s w = fitting (bad_processors w) w (table s)

unfoldable pub planned_for : List ℕ → Settings → ℕ → AnswerOf Planned
planned_for s w b = fitting (bad_number w b) w (table s)
