-- Loops of several statements: what depends on what, lists, sweeps, the plain run and a run in a caller's order, a plan by hand.
use Rattle.std.specs.Prelude.{◌≡◌, refl, List, [], ◌∷◌, ◌++◌, ℕ, Float}
use Rattle.std.proofs.Math.Decide.{dec_lt}
use Rattle.refusals.specs.Refusals.{none, naming}
use Rattle.chains.specs.Steps.{steps, raised_by}
use Rattle.plans.specs.Plans.{settings}
use Rattle.plain.specs.Plain.{plain_memory}
use Rattle.model.specs.Table.{iteration}
use Rattle.turns.specs.Turn.{performs}
use Rattle.turns.specs.Row.{zeros, none_done, reports, counts_after, memory_after}
use Rattle.stepping.specs.Step.{step}
use Rattle.stepping.specs.Run.{run_memory}
use Rattle.text.specs.Ascii.{ascii}
use Rattle.known.specs.Records.{array, ahead, back, statement, loop, store, read, constant, one, add, end, times}
use Rattle.known.specs.Computed.{refusal_for, shifts_in, peels_in, steps_in, listed}
use Rattle.known.specs.Memory.{whole, element, element_in, reported, counts_left, element_left}
use Rattle.hands.specs.Hands.{handed_to, plan2}

-- from 1 to 10: A0[i] = A2[i], A1[i] = A0[i]; then A2[i] = A1[i+1]
abbrev later : List ℕ
later = times 3 (array 12) ++ store 0 ++ read 2 (ahead 0) ++ statement 1 (ahead 0) ++ read 0 (ahead 0) ++ store 2 ++ read 1 (ahead 1) ++ end

-- from 1 to 10: A0[i] = A2[i+2]; then A1[i] = 1, A2[i] = 1
abbrev stored : List ℕ
stored = times 3 (array 13) ++ store 0 ++ read 2 (ahead 2) ++ store 1 ++ one ++ statement 2 (ahead 0) ++ one ++ end

-- from 1 to 4: A0[i] = A1[i] + 1, A1[i] = A0[i] + A0[i]; then A2[i] = A1[i+1] + A0[i-1]
abbrev river : List ℕ
river =
    times 3 (array 6)
    ++ loop 1 4 0 (ahead 0) ++ read 1 (ahead 0) ++ one ++ add ++ statement 1 (ahead 0) ++ read 0 (ahead 0) ++ read 0 (ahead 0) ++ add
    ++ loop 1 4 2 (ahead 0) ++ read 1 (ahead 1) ++ read 0 back ++ add
    ++ end

abbrev six : (a b c d e f : ℕ) → List Float
six a b c d e f = whole a ∷ whole b ∷ whole c ∷ whole d ∷ whole e ∷ whole f ∷ []

-- every element its own index, and what the runs leave
abbrev start : List Float
start = six 0 1 2 3 4 5 ++ six 0 1 2 3 4 5 ++ six 0 1 2 3 4 5

abbrev final : List Float
final = six 0 2 3 4 5 5 ++ six 0 4 6 8 10 5 ++ six 0 6 10 13 9 5

pub record Plans : Type 0 where
  -- a dependence joins any destination of one loop with any reference of another to its array: the earlier loop's second destination
  pub second-earlier : shifts_in later ≡ 0 ∷ 1 ∷ []
  pub second-earlier-peels : peels_in later ≡ 0 ∷ 0 ∷ []
  -- the later loop's second destination
  pub second-later : peels_in stored ≡ 0 ∷ 2 ∷ []
  -- both at once: A1[i+1] makes the shift, A0[i-1] the peel
  pub both-shifts : shifts_in river ≡ 0 ∷ 1 ∷ []
  pub both-peels : peels_in river ≡ 0 ∷ 1 ∷ []
  -- two further destinations: A0[i] = 1, A1[i] = 1; then A2[i] = 1, A1[i+1] = 1
  pub both-further : shifts_in
      (times 3 (array 12) ++ store 0 ++ one ++ statement 1 (ahead 0) ++ one ++ store 2 ++ one ++ statement 1 (ahead 1) ++ one ++ end)
      ≡ 0 ∷ 1 ∷ []
  -- a further statement's read: A0[i] = 1; then A1[i] = 1, A2[i] = A0[i+1]
  pub further-read : shifts_in (times 3 (array 12) ++ store 0 ++ one ++ store 1 ++ one ++ statement 2 (ahead 0) ++ read 0 (ahead 1) ++ end) ≡ 0 ∷ 1 ∷ []
  -- each pair of references of two loops is one step, by position: four references, then two
  pub steps-taken : steps_in later ≡ 0 ∷ 4 ∷ 1 ∷ 4 ∷ 2 ∷ 4 ∷ 3 ∷ 4 ∷ 0 ∷ 5 ∷ 1 ∷ 5 ∷ 2 ∷ 5 ∷ 3 ∷ 5 ∷ []
  -- lists go by these; sweeps count the arrays of all statements: 3 and 2, then 2 and 1; in all 3 and 3
  pub listing : listed later 2
      ≡ ascii "loop 0 0 0\n"
      ++ ascii "loop 1 1 0\n"
      ++ ascii "block 0 1 5\n"
      ++ ascii "block 1 6 10\n"
      ++ ascii "fused 0 0 1 5\n"
      ++ ascii "fused 0 1 1 4\n"
      ++ ascii "fused 1 0 6 10\n"
      ++ ascii "fused 1 1 6 10\n"
      ++ ascii "peeled 0 1 5 5\n"
      ++ ascii "sweeps 8 6\n"
  -- statements run in order, each stored before the next begins: A0[i] = 7; A0[i] = A0[i] + 1
  pub in_order : plain_memory
      (array 1 ++ loop 0 0 0 (ahead 0) ++ constant 7 ++ statement 0 (ahead 0) ++ read 0 (ahead 0) ++ one ++ add ++ end) (whole 3 ∷ [])
      ≡ whole 8 ∷ []
  -- four of them: A0[i] = 1, A1[i] = A0[i] + A0[i], A0[i] = A1[i] + A0[i], A1[i] = A0[i] + A1[i]
  pub four : plain_memory
      (times 2 (array 1) ++ loop 0 0 0 (ahead 0) ++ one ++ statement 1 (ahead 0) ++ read 0 (ahead 0) ++ read 0 (ahead 0) ++ add
      ++ statement 0 (ahead 0) ++ read 1 (ahead 0) ++ read 0 (ahead 0) ++ add ++ statement 1 (ahead 0) ++ read 0 (ahead 0) ++ read 1 (ahead 0) ++ add ++ end)
      (whole 0 ∷ whole 0 ∷ [])
      ≡ whole 3 ∷ whole 5 ∷ []
  -- the plain run, and a run in an order that begins with the last processor
  pub plain : plain_memory river start ≡ final
  pub ordered : run_memory river (settings 2) (times 12 (1 ∷ [])) start ≡ final
  -- an iteration is one step: it is reported once and counted once, and both its statements are stored
  pub one-report : reports (step river (settings 2)) (0 ∷ []) none_done start ≡ performs (iteration 0 1) ∷ []
  pub one-count : counts_after (step river (settings 2)) (0 ∷ []) none_done start ≡ 1 ∷ zeros 63
  pub both_stored : memory_after (step river (settings 2)) (0 ∷ []) none_done start ≡ six 0 2 2 3 4 5 ++ six 0 4 2 3 4 5 ++ six 0 1 2 3 4 5
  -- a plan by hand is held to the second destination's dependence, too
  pub unmet : handed_to later 1 (plan2 0 0 0 0) ≡ naming 20 0 1 0
  pub met : handed_to later 1 (plan2 0 0 1 0) ≡ none
  pub unmet-later : handed_to stored 1 (plan2 0 0 0 1) ≡ naming 20 0 1 0
  pub met-later : handed_to stored 1 (plan2 0 0 0 2) ≡ none

pub plans : Plans
unfolding refusal_for steps raised_by dec_lt listed element element_in reported counts_left element_left handed_to
plans = record {
  second-earlier = refl;
  second-earlier-peels = refl;
  second-later = refl;
  both-shifts = refl;
  both-peels = refl;
  both-further = refl;
  further-read = refl;
  steps-taken = refl;
  listing = refl;
  in_order = refl;
  four = refl;
  plain = refl;
  ordered = refl;
  one-report = refl;
  one-count = refl;
  both_stored = refl;
  unmet = refl;
  met = refl;
  unmet-later = refl;
  met-later = refl;
}
