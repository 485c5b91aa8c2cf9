-- Where two loops meet, computed: known results. Offset 0 is kept as 255.
use Rattle.std.specs.Prelude.{◌≡◌, refl, true, false}
use Rattle.overlap.specs.Overlap.{meeting, overlap}

pub record Example : Type 0 where
  -- at distance -2 a loop from 1 to 6 never meets one from 5 to 9, since 6 - 2 is below 5; one from 1 to 7 does, in its last iteration
  pub below : meeting 1 6 255 5 9 257 ≡ false
  pub last-alone : meeting 1 7 255 5 9 257 ≡ true
  -- at distance 2 a loop from 5 to 9 never meets one from 1 to 6, since 5 + 2 is above 6; one from 1 to 7 it meets in its first iteration
  pub above : meeting 5 9 257 1 6 255 ≡ false
  pub first_alone : meeting 5 9 257 1 7 255 ≡ true
  -- neither end of the first loop meets the second, but iterations between them do
  pub between : meeting 1 9 255 4 5 255 ≡ true
  -- the test finds the same
  pub test_below : overlap 1 6 255 5 9 257 ≡ false
  pub test-last-alone : overlap 1 7 255 5 9 257 ≡ true
  pub test-above : overlap 5 9 257 1 6 255 ≡ false
  pub test-first-alone : overlap 5 9 257 1 7 255 ≡ true
  pub test-between : overlap 1 9 255 4 5 255 ≡ true

pub example : Example
unfolding meeting overlap
example = record {
  below = refl;
  last-alone = refl;
  above = refl;
  first_alone = refl;
  between = refl;
  test_below = refl;
  test-last-alone = refl;
  test-above = refl;
  test-first-alone = refl;
  test-between = refl;
}
