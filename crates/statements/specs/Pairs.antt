-- The pair of references that 9 names: all references of the loop, destinations too, are numbered from 0 in byte order; of the pairs that collide
-- it is that whose lower number is least, then whose higher number is least.
use Rattle.std.specs.Prelude.{◌≡◌, refl, List, ◌++◌, ℕ}
use Rattle.refusals.specs.Refusals.{none, naming}
use Rattle.known.specs.Records.{array, ahead, statement, loop, read, one, add, end, times}
use Rattle.known.specs.Computed.{refusal}

-- two arrays of 4, and a loop from 0 to 1 that first stores A0[i] = 1; or A0[i] = what is to come
abbrev two_arrays : List ℕ
two_arrays = times 2 (array 4) ++ loop 0 1 0 (ahead 0)

pub record Pairs : Type 0 where
  -- two destinations: A0[i] = 1; A0[i+1] = 1. At one element they are of one iteration, and two apart of none
  pub destinations : refusal (two_arrays ++ one ++ statement 0 (ahead 1) ++ one ++ end) ≡ naming 9 0 0 1
  pub one-element : refusal (two_arrays ++ one ++ statement 0 (ahead 0) ++ one ++ end) ≡ none
  pub far : refusal (two_arrays ++ one ++ statement 0 (ahead 2) ++ one ++ end) ≡ none
  pub other-array : refusal (two_arrays ++ one ++ statement 1 (ahead 1) ++ one ++ end) ≡ none
  -- a later statement's destination and its own read: A0[i] = 1; A1[i] = A1[i+1]
  pub second-own : refusal (two_arrays ++ one ++ statement 1 (ahead 0) ++ read 1 (ahead 1) ++ end) ≡ naming 9 0 1 2
  -- a read that stands before the destination it meets: A0[i] = A1[i+1]; A1[i] = 1
  pub read_first : refusal (two_arrays ++ read 1 (ahead 1) ++ statement 1 (ahead 0) ++ one ++ end) ≡ naming 9 0 1 2
  -- the first destination and a later statement's read: A0[i] = 1; A1[i] = A0[i+1]
  pub across : refusal (two_arrays ++ one ++ statement 1 (ahead 0) ++ read 0 (ahead 1) ++ end) ≡ naming 9 0 0 2
  -- two reads don't collide: A0[i] = A1[i]; A0[i] = A1[i+1]
  pub two-reads : refusal (two_arrays ++ read 1 (ahead 0) ++ statement 0 (ahead 0) ++ read 1 (ahead 1) ++ end) ≡ none
  -- 0 and 3 before 1 and 2, though 2 is below 3: A0[i] = A1[i+1]; A1[i] = A0[i+1]
  pub least-lower : refusal (two_arrays ++ read 1 (ahead 1) ++ statement 1 (ahead 0) ++ read 0 (ahead 1) ++ end) ≡ naming 9 0 0 3
  -- then the least higher one: A0[i] = A0[i] + A0[i+1]; A0[i+1] = 1 has the pairs 0 and 2, 0 and 3, 1 and 3
  pub least-higher : refusal (two_arrays ++ read 0 (ahead 0) ++ read 0 (ahead 1) ++ add ++ statement 0 (ahead 1) ++ one ++ end) ≡ naming 9 0 0 2
  -- constants and operations have no number: A0[i] = 1 + 1 + A1[i]; A1[i+1] = 1
  pub items-uncounted : refusal (two_arrays ++ one ++ one ++ add ++ read 1 (ahead 0) ++ add ++ statement 1 (ahead 1) ++ one ++ end) ≡ naming 9 0 1 2
  -- the fourth statement's: A0[i] = 1, A0[i] = 1, A0[i] = 1, A0[i+1] = 1
  pub fourth : refusal (two_arrays ++ one ++ times 2 (statement 0 (ahead 0) ++ one) ++ statement 0 (ahead 1) ++ one ++ end) ≡ naming 9 0 0 3
  -- the lowest loop that has a pair, whatever the pair's numbers are
  pub lowest-loop : refusal
      (two_arrays ++ read 1 (ahead 1) ++ statement 1 (ahead 0) ++ one ++ loop 0 1 0 (ahead 0) ++ read 0 (ahead 1) ++ end)
      ≡ naming 9 0 1 2

pub pairs : Pairs
unfolding refusal
pairs = record {
  destinations = refl;
  one-element = refl;
  far = refl;
  other-array = refl;
  second-own = refl;
  read_first = refl;
  across = refl;
  two-reads = refl;
  least-lower = refl;
  least-higher = refl;
  items-uncounted = refl;
  fourth = refl;
  lowest-loop = refl;
}
