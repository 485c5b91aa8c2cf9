-- The example with two processors: its lists, a row of steps, and runs in a caller's order.
use Rattle.std.specs.Prelude.{◌≡◌, refl, [], ◌∷◌, ◌++◌}
use Rattle.model.specs.Table.{iteration}
use Rattle.refusals.specs.Refusals.{met}
use Rattle.turns.specs.Turn.{refuses, performs, waits, ends}
use Rattle.turns.specs.Row.{zeros, idle}
use Rattle.known.specs.Records.{times}
use Rattle.known.specs.Bytes.{example}
use Rattle.known.specs.Computed.{fused_in, peeled_in}
use Rattle.known.specs.Memory.{whole, own, some_row, performs_all, said_from, reported, counts_left, element_left, row_in, idle_in, element_in}

pub record Runs : Type 0 where
  -- processor b runs its fused part in rising order of i + s, equal sums in loop order; s is 0 and 1
  pub fused-first : fused_in example 2 0
      ≡ iteration 0 1 ∷ iteration 0 2 ∷ iteration 1 1 ∷ iteration 0 3 ∷ iteration 1 2 ∷ iteration 0 4 ∷ iteration 1 3 ∷ iteration 0 5 ∷ iteration 1 4 ∷ []
  pub fused-last : fused_in example 2 1
      ≡ iteration 0 6 ∷ iteration 0 7 ∷ iteration 0 8 ∷ iteration 1 7 ∷ iteration 0 9 ∷ iteration 1 8 ∷ iteration 0 10 ∷ iteration 1 9 ∷ iteration 1 10 ∷ []
  -- past the barrier it runs its peeled part; the last block has none
  pub peeled-first : peeled_in example 2 0 ≡ iteration 1 5 ∷ iteration 1 6 ∷ []
  pub peeled-last : peeled_in example 2 1 ≡ []
  -- a step says what was done: loop and iteration, or waiting (fused list used up, another's not), or finished (both lists used up; a processor
  -- with no peeled iterations waits till the barrier opens). A number not below P is refused
  pub reports : reported some_row
      ≡ performs_all (fused_in example 2 1) ++ waits ∷ refuses (met 10 0) ∷ performs_all (fused_in example 2 0)
      ++ ends ∷ performs (iteration 1 5) ∷ performs (iteration 1 6) ∷ ends ∷ []
  -- a state holds for each processor the count of iterations done; calls that wait, are finished or are refused count nothing
  pub counts : counts_left some_row ≡ 11 ∷ 9 ∷ zeros 62
  pub peeled-step : said_from 0 (10 ∷ 9 ∷ zeros 62) own ≡ performs (iteration 1 6)
  -- after a complete row the memory is the plain run's
  pub row-1 : element_left some_row 1 ≡ whole 3
  pub row-5 : element_left some_row 5 ≡ whole 12
  pub row-10 : element_left some_row 10 ≡ whole 21
  -- when the bytes are used up, the lowest-numbered processor that can step does, until all are finished
  pub run_row : row_in (1 ∷ []) ≡ 1 ∷ times 9 (0 ∷ []) ++ times 8 (1 ∷ []) ++ 0 ∷ 0 ∷ []
  -- waiting, finished or a number not below P counts as idle
  pub each-idle : idle (performs (iteration 0 1) ∷ waits ∷ ends ∷ refuses (met 10 0) ∷ []) ≡ 3
  -- of runs: none; 3 that wait of 12; 1 not below P; those of that row, which waits, is refused and is finished twice
  pub no-order : idle_in [] ≡ 0
  pub waiting : idle_in (times 12 (1 ∷ [])) ≡ 3
  pub not-below : idle_in (2 ∷ []) ≡ 1
  pub all_three : idle_in some_row ≡ 4
  -- and it leaves the plain run's memory
  pub run-1 : element_in (times 12 (1 ∷ [])) 1 ≡ whole 3
  pub run-5 : element_in (times 12 (1 ∷ [])) 5 ≡ whole 12
  pub run-10 : element_in (times 12 (1 ∷ [])) 10 ≡ whole 21

pub runs : Runs
unfolding fused_in peeled_in said_from reported counts_left element_left row_in idle_in element_in
runs = record {
  fused-first = refl;
  fused-last = refl;
  peeled-first = refl;
  peeled-last = refl;
  reports = refl;
  counts = refl;
  peeled-step = refl;
  row-1 = refl;
  row-5 = refl;
  row-10 = refl;
  run_row = refl;
  each-idle = refl;
  no-order = refl;
  waiting = refl;
  not-below = refl;
  all_three = refl;
  run-1 = refl;
  run-5 = refl;
  run-10 = refl;
}
