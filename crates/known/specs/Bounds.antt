-- A dependence counts where some iteration i of the earlier loop and i + d of the later one both lie in their loops' bounds, and nowhere else.
-- (Known's `never-meet` and `meet-once` have the known result.)
use Rattle.std.specs.Prelude.{ℕ, ◌≡◌, refl, List, [], ◌∷◌, ◌++◌}
use Rattle.refusals.specs.Refusals.{none, met}
use Rattle.known.specs.Records.{array, ahead, behind, back, loop, read, one, end, times}
use Rattle.known.specs.Bytes.{stored_then_read}
use Rattle.known.specs.Computed.{refusal_for, shifts_in, peels_in}

-- 1 to 2 stores A0[i]; f to l, A1[i] = A0[i+1]; 8 to 9, A2[i] = A1[i]
abbrev chain : ℕ → ℕ → List ℕ
chain f l =
    times 3 (array 12) ++ loop 1 2 0 (ahead 0) ++ one ++ loop f l 1 (ahead 0) ++ read 0 (ahead 1) ++ loop 8 9 2 (ahead 0) ++ read 1 (ahead 0)
    ++ end

-- 1 to `last`, A1[i] = A0[i]; 5 to 9 stores A0[i+2]: a store after a read
abbrev overwritten : ℕ → List ℕ
overwritten last = times 2 (array 15) ++ loop 1 last 1 (ahead 0) ++ read 0 (ahead 0) ++ loop 5 9 0 (ahead 2) ++ one ++ end

-- 255 to l stores A0[i−255], 0 to 0 reads A0[i+255]: distance −510
abbrev farthest : ℕ → List ℕ
farthest l = times 2 (array 300) ++ loop 255 l 0 (behind 255) ++ one ++ loop 0 0 1 (ahead 0) ++ read 0 (ahead 255) ++ end

-- 0 to 0 stores A0[i+255], 255 to l reads A0[i−255]: distance 510
abbrev farthest_ahead : ℕ → List ℕ
farthest_ahead l = times 2 (array 600) ++ loop 0 0 0 (ahead 255) ++ one ++ loop 255 l 1 (ahead 0) ++ read 0 (behind 255) ++ end

pub record Bounds : Type 0 where
  -- distance −2: iteration 5 would meet 3, which is above 2
  pub above-last : shifts_in (stored_then_read 5 9 1 2 (ahead 2)) ≡ 0 ∷ 0 ∷ []
  pub at_last : shifts_in (stored_then_read 5 9 1 3 (ahead 2)) ≡ 0 ∷ 2 ∷ []
  -- distance 2, the other way
  pub peel-above : peels_in (stored_then_read 5 9 3 6 (behind 2)) ≡ 0 ∷ 0 ∷ []
  pub peel-at : peels_in (stored_then_read 5 9 3 7 (behind 2)) ≡ 0 ∷ 2 ∷ []
  pub peel-below : peels_in (stored_then_read 1 2 5 9 (behind 2)) ≡ 0 ∷ 0 ∷ []
  pub peel-last : peels_in (stored_then_read 1 3 5 9 (behind 2)) ≡ 0 ∷ 2 ∷ []
  -- some iteration, not the first or the last: of 1 to 9 only 5 and 6 meet 4 and 5
  pub in_between : shifts_in (stored_then_read 1 9 4 5 (ahead 1)) ≡ 0 ∷ 1 ∷ []
  -- no iteration is below 0: 0 would meet −1
  pub below-zero : shifts_in (stored_then_read 0 0 0 5 (ahead 1)) ≡ 0 ∷ 0 ∷ []
  -- a boundary loop of one iteration and the loop over the rest: 0 meets 1 at distance 1, and nothing at distance −1
  pub boundary : peels_in (stored_then_read 0 0 1 10 back) ≡ 0 ∷ 1 ∷ []
  pub boundary-shift : shifts_in (stored_then_read 0 0 1 10 (ahead 1)) ≡ 0 ∷ 0 ∷ []
  -- a store after a read likewise
  pub store_below : shifts_in (overwritten 6) ≡ 0 ∷ 0 ∷ []
  pub store_at : shifts_in (overwritten 7) ≡ 0 ∷ 2 ∷ []
  -- each dependence of a chain counts by itself: loops 0 and 1 meet at 2 and 1, loops 1 and 2 at 8 and 9
  pub each-by-itself : shifts_in (chain 1 9) ≡ 0 ∷ 1 ∷ 1 ∷ []
  -- and a chain ends where two loops never meet, at distance 0 too
  pub cut : shifts_in (chain 1 7) ≡ 0 ∷ 1 ∷ 0 ∷ []
  -- the largest distances
  pub largest-at : shifts_in (farthest 510) ≡ 0 ∷ 510 ∷ []
  pub largest-below : shifts_in (farthest 509) ≡ 0 ∷ 0 ∷ []
  pub largest-ahead : peels_in (farthest_ahead 510) ≡ 0 ∷ 510 ∷ []
  pub largest-ahead-below : peels_in (farthest_ahead 509) ≡ 0 ∷ 0 ∷ []
  -- thresholds use these dependences alone: nine blocks of one index
  pub accepted-nine : refusal_for (stored_then_read 1 6 5 9 (ahead 2)) 9 ≡ none
  pub refused-nine : refusal_for (stored_then_read 1 7 5 9 (ahead 2)) 9 ≡ met 11 0

pub bounds : Bounds
unfolding refusal_for
bounds = record {
  above-last = refl;
  at_last = refl;
  peel-above = refl;
  peel-at = refl;
  peel-below = refl;
  peel-last = refl;
  in_between = refl;
  below-zero = refl;
  boundary = refl;
  boundary-shift = refl;
  store_below = refl;
  store_at = refl;
  each-by-itself = refl;
  cut = refl;
  largest-at = refl;
  largest-below = refl;
  largest-ahead = refl;
  largest-ahead-below = refl;
  accepted-nine = refl;
  refused-nine = refl;
}
