-- Misreadings of docs/TABLE.md, each with a table of which it would say something else. (Stopping a chain at distance 0: Known's `distances`.)
use Rattle.std.specs.Prelude.{◌≡◌, refl, [], ◌∷◌}
use Rattle.model.specs.Table.{iteration}
use Rattle.refusals.specs.Refusals.{none, met}
use Rattle.known.specs.Bytes.{example, three, apart}
use Rattle.known.specs.Computed.{refusal_for, shifts_in, peels_in, threshold_in, peeled_in}

pub record Misreadings : Type 0 where
  -- peels from distances already shifted: loop 1 of the example has the shift 1, and the distance 1 of A0[i−1] would be 2
  pub unshifted-peels : peels_in example ≡ 0 ∷ 1 ∷ []
  -- only neighbouring loops compared: loop 2 reads what loop 0 stores, and loop 1 between them only reads it
  pub all-pairs : peels_in (apart 1 1) ≡ 0 ∷ 0 ∷ 1 ∷ []
  -- threshold as largest shift plus largest peel: shift 1 in one loop and peel 1 in another give 1, so ten blocks of one index are long enough
  pub apart-shifts : shifts_in (apart 1 1) ≡ 0 ∷ 1 ∷ 0 ∷ []
  pub apart-threshold : threshold_in (apart 1 1) ≡ 1 ∷ []
  pub apart-ten : refusal_for (apart 1 1) 10 ≡ none
  pub apart-eleven : refusal_for (apart 1 1) 11 ≡ met 11 0
  -- shift 3, peel 0 in one loop and shift 0, peel 2 in another give 3, not 5: blocks of 4, 3, 3 are long enough, and those of 3, 3, 2, 2 are not
  pub three-not-five : threshold_in (apart 3 2) ≡ 3 ∷ []
  pub apart-three : refusal_for (apart 3 2) 3 ≡ none
  pub apart-four : refusal_for (apart 3 2) 4 ≡ met 11 0
  -- peeled parts run iteration by iteration across loops: loop 1 has 5 and 6 of them, loop 2 has 4 to 7
  pub loop-by-loop : peeled_in three 2 0
      ≡ iteration 1 5 ∷ iteration 1 6 ∷ iteration 2 4 ∷ iteration 2 5 ∷ iteration 2 6 ∷ iteration 2 7 ∷ []

pub misreadings : Misreadings
unfolding peeled_in
misreadings = record {
  unshifted-peels = refl;
  all-pairs = refl;
  apart-shifts = refl;
  apart-threshold = refl;
  apart-ten = refl;
  apart-eleven = refl;
  three-not-five = refl;
  apart-three = refl;
  apart-four = refl;
  loop-by-loop = refl;
}
