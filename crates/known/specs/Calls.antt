-- The grounds that a call can meet beside a table's, 10 to 15: the examples of docs/REFUSALS.md but those on lines (Lines, LineCalls), the other cases,
-- and which is told of several.
use Rattle.std.specs.Prelude.{◌≡◌, refl, [], ◌∷◌, ◌++◌}
use Rattle.refusals.specs.Refusals.{none, met, naming}
use Rattle.refusals.specs.Answers.{refusal_of}
use Rattle.numbers.specs.Numbers.{four, encoded}
use Rattle.outputs.specs.Given.{fitted}
use Rattle.turns.specs.Turn.{refuses}
use Rattle.turns.specs.Row.{zeros, none_done}
use Rattle.plans.specs.Plans.{settings}
use Rattle.entries.specs.Entries.{thresholds, blocks_given}
use Rattle.joins.specs.Joining.{alike, joining}
use Rattle.known.specs.Records.{array, ahead, loop, one, end}
use Rattle.known.specs.Bytes.{table_of, example, itself, steep, river}
use Rattle.known.specs.Computed.{refusal_for}
use Rattle.known.specs.Memory.{own, plain_refusal, run_refusal, said_from}

pub record Calls : Type 0 where
  -- 10 processors: P outside 1 to 64, or a stepped number not below P
  pub processors : refusal_for example 65 ≡ met 10 0
  pub no-such-processor : said_from 2 none_done own ≡ refuses (met 10 0)
  -- 11 short: fewer lines than P (here lines have one index), or P ≥ 2 and some block below the threshold
  pub short : refusal_for example 6 ≡ met 11 0
  -- 12 memory: its length isn't the table's element total, 36
  pub no-memory : run_refusal example 2 0 ≡ met 12 0
  pub one_less : plain_refusal example 35 ≡ met 12 0
  pub one_more : plain_refusal example 37 ≡ met 12 0
  pub the-total : plain_refusal example 36 ≡ none
  -- 13 buffer: the output doesn't fit the lent bytes (each output: Outputs, Joins)
  pub buffer : refusal_of (thresholds example 3) ≡ met 13 0
  -- 14 unlike: joined tables differ in arrays (in length or number: Joins)
  pub unlike : refusal_of (joining example river 4096) ≡ met 14 0
  -- 15 state: a peeled step before the barrier, a count above its lists, or a count above 0 for a processor not below P
  pub before-the-barrier : said_from 0 (10 ∷ zeros 63) own ≡ refuses (met 15 0)
  pub above-its-lists : said_from 0 (12 ∷ 9 ∷ zeros 62) own ≡ refuses (met 15 0)
  pub beyond : said_from 0 (0 ∷ 0 ∷ 1 ∷ zeros 61) own ≡ refuses (met 15 0)
  pub beyond-last : said_from 0 (zeros 63 ++ 1 ∷ []) own ≡ refuses (met 15 0)
  -- P is 1 to 64; there are as many indices
  pub one-processor : refusal_for (table_of 1 1) 1 ≡ none
  pub no-processor : refusal_for (table_of 1 1) 0 ≡ met 10 0
  pub processors-most : refusal_for (array 65 ++ loop 0 63 0 (ahead 0) ++ one ++ end) 64 ≡ none
  pub processors-past : refusal_for (array 65 ++ loop 0 64 0 (ahead 0) ++ one ++ end) 65 ≡ met 10 0
  -- P = 1 is accepted whatever the threshold is, P = 2 is not: two indices, and shift and peel 1
  pub one_block : refusal_for steep 1 ≡ none
  pub two_blocks : refusal_for steep 2 ≡ met 11 0
  -- T is at least P
  pub indices-least : refusal_for (array 65 ++ loop 0 2 0 (ahead 0) ++ one ++ end) 3 ≡ none
  pub indices-below : refusal_for (array 65 ++ loop 0 1 0 (ahead 0) ++ one ++ end) 3 ≡ met 11 0
  -- after 1 to 9 come 19, 20, 10, 17, 11, 12, 15, 13, as far as the call has them
  pub serial-processors : refusal_for (itself 9) 0 ≡ naming 9 0 0 1
  pub processors-short : refusal_for (table_of 1 1) 65 ≡ met 10 0
  pub short-memory : run_refusal example 6 0 ≡ met 11 0
  pub serial-memory : plain_refusal (itself 9) 0 ≡ naming 9 0 0 1
  pub processors-memory : said_from 2 (10 ∷ zeros 63) [] ≡ refuses (met 10 0)
  pub memory-state : said_from 0 (10 ∷ zeros 63) [] ≡ refuses (met 12 0)
  pub serial-buffer : refusal_of (thresholds (itself 9) 0) ≡ naming 9 0 0 1
  pub short-buffer : refusal_of (blocks_given example (settings 6) 0) ≡ met 11 0

pub calls : Calls
unfolding refusal_for plain_refusal run_refusal said_from thresholds blocks_given fitted encoded four joining alike
calls = record {
  processors = refl;
  no-such-processor = refl;
  short = refl;
  no-memory = refl;
  one_less = refl;
  one_more = refl;
  the-total = refl;
  buffer = refl;
  unlike = refl;
  before-the-barrier = refl;
  above-its-lists = refl;
  beyond = refl;
  beyond-last = refl;
  one-processor = refl;
  no-processor = refl;
  processors-most = refl;
  processors-past = refl;
  one_block = refl;
  two_blocks = refl;
  indices-least = refl;
  indices-below = refl;
  serial-processors = refl;
  processors-short = refl;
  short-memory = refl;
  serial-memory = refl;
  processors-memory = refl;
  memory-state = refl;
  serial-buffer = refl;
  short-buffer = refl;
}
