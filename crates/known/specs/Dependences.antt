-- Which references make a dependence, and of what distance.
use Rattle.std.specs.Prelude.{◌≡◌, refl, [], ◌∷◌, ◌++◌}
use Rattle.std.proofs.Math.Decide.{dec_lt}
use Rattle.chains.specs.Steps.{steps, raised_by}
use Rattle.known.specs.Records.{array, ahead, back, loop, store, read, one, add, end, times}
use Rattle.known.specs.Bytes.{example, itself, apart, stores, reads}
use Rattle.known.specs.Computed.{refusal_for, shifts_in, peels_in, threshold_in, steps_in, walk_in}

pub record Dependences : Type 0 where
  -- d = (offset in j) - (offset in k): a read at +2 of what is stored at 0 has the distance -2, and one at -1 the distance 1
  pub read-ahead : shifts_in (apart 2 1) ≡ 0 ∷ 2 ∷ 0 ∷ []
  pub read_back : peels_in (apart 2 1) ≡ 0 ∷ 0 ∷ 1 ∷ []
  -- of several the largest counts, wherever it stands: A0[i+2] + A0[i+1], and A0[i+1] + A0[i+2]
  pub largest-first : shifts_in (times 2 (array 13) ++ store 0 ++ one ++ store 1 ++ read 0 (ahead 2) ++ read 0 (ahead 1) ++ add ++ end) ≡ 0 ∷ 2 ∷ []
  pub largest-last : shifts_in (times 2 (array 13) ++ store 0 ++ one ++ store 1 ++ read 0 (ahead 1) ++ read 0 (ahead 2) ++ add ++ end) ≡ 0 ∷ 2 ∷ []
  -- stores following stores count: A0[i], then A0[i+1] or A0[i-1]
  pub store-ahead : shifts_in (stores (ahead 1)) ≡ 0 ∷ 1 ∷ []
  pub store-ahead-peel : peels_in (stores (ahead 1)) ≡ 0 ∷ 0 ∷ []
  pub store-back : shifts_in (stores back) ≡ 0 ∷ 0 ∷ []
  pub store-back-peel : peels_in (stores back) ≡ 0 ∷ 1 ∷ []
  -- two reads don't: A2[i+1], then A2[i-1] or A2[i+2]
  pub reads-back : peels_in (reads back) ≡ 0 ∷ 0 ∷ []
  pub reads-ahead : shifts_in (reads (ahead 2)) ≡ 0 ∷ 0 ∷ []
  -- for loops j before k: a loop and itself make none
  pub one-loop : peels_in (itself 10) ≡ 0 ∷ []
  pub one-loop-shift : shifts_in (itself 10) ≡ 0 ∷ []
  -- each of sixteen loops counts: the last one alone has a shift
  pub sixteenth : threshold_in (times 2 (array 3) ++ times 15 (loop 0 1 0 (ahead 0) ++ one) ++ loop 0 1 1 (ahead 0) ++ read 0 (ahead 1) ++ end) ≡ 1 ∷ []
  -- the walk over pairs, by position. The example: A0[i] and A1[i], then A2[i], A0[i-1] and A0[i+1]; six pairs, of which two make a dependence
  pub example-steps : steps_in example ≡ 0 ∷ 2 ∷ 1 ∷ 2 ∷ 0 ∷ 3 ∷ 1 ∷ 3 ∷ 0 ∷ 4 ∷ 1 ∷ 4 ∷ []
  pub example-walk : walk_in example ≡ 0 ∷ 1 ∷ 0 ∷ 1 ∷ 6 ∷ []
  -- A0[i] = A2[i+1]; A1[i] = A2[i-1]: the two reads are a pair too
  pub reads-steps : steps_in (reads back) ≡ 0 ∷ 2 ∷ 1 ∷ 2 ∷ 0 ∷ 3 ∷ 1 ∷ 3 ∷ []
  -- A0[i] = 1; A1[i] = A0[i+1] + A0[i+1]: one element twice is two references
  pub twice-steps : steps_in (times 2 (array 13) ++ store 0 ++ one ++ store 1 ++ read 0 (ahead 1) ++ read 0 (ahead 1) ++ add ++ end) ≡ 0 ∷ 1 ∷ 0 ∷ 2 ∷ 0 ∷ 3 ∷ []

pub dependences : Dependences
unfolding refusal_for steps raised_by dec_lt
dependences = record {
  read-ahead = refl;
  read_back = refl;
  largest-first = refl;
  largest-last = refl;
  store-ahead = refl;
  store-ahead-peel = refl;
  store-back = refl;
  store-back-peel = refl;
  reads-back = refl;
  reads-ahead = refl;
  one-loop = refl;
  one-loop-shift = refl;
  sixteenth = refl;
  example-steps = refl;
  example-walk = refl;
  reads-steps = refl;
  twice-steps = refl;
}
