-- The listing's known results, from bytes to text, by computation.
use Rattle.std.specs.Prelude.{◌≡◌, refl, [], ◌++◌}
use Rattle.plans.specs.Plans.{Settings, settings}
use Rattle.text.specs.Ascii.{ascii}
use Rattle.printing.specs.Printing.{text}
use Rattle.known.specs.Bytes.{example, apart, store_after_read, several_reads, staggered}
use Rattle.known.specs.Computed.{listed}

-- no table byte, whatever the settings are
pub empty-input : (w : Settings) → text [] w ≡ ascii "refused 1 0\n"
unfolding listed
empty-input w = refl

-- a refusal is the single line `refused`, number, place (for 9 the loop)
pub loop-for-place : listed several_reads 2 ≡ ascii "refused 9 1\n"
unfolding listed
loop-for-place = refl

-- the example
pub example-text : text example (settings 2)
    ≡ ascii "loop 0 0 0\n"
    ++ ascii "loop 1 1 1\n"
    ++ ascii "block 0 1 5\n"
    ++ ascii "block 1 6 10\n"
    ++ ascii "fused 0 0 1 5\n"
    ++ ascii "fused 0 1 1 4\n"
    ++ ascii "fused 1 0 6 10\n"
    ++ ascii "fused 1 1 7 10\n"
    ++ ascii "peeled 0 1 5 6\n"
    ++ ascii "sweeps 6 5\n"
unfolding listed
example-text = refl

-- fields: loop, shift, peel. Loop 1 has the shift 2 and the peel 0, loop 2 the shift 0 and the peel 1
pub apart-text : listed (apart 2 1) 2
    ≡ ascii "loop 0 0 0\n"
    ++ ascii "loop 1 2 0\n"
    ++ ascii "loop 2 0 1\n"
    ++ ascii "block 0 2 6\n"
    ++ ascii "block 1 7 11\n"
    ++ ascii "fused 0 0 2 6\n"
    ++ ascii "fused 0 1 2 4\n"
    ++ ascii "fused 0 2 2 6\n"
    ++ ascii "fused 1 0 7 11\n"
    ++ ascii "fused 1 1 7 11\n"
    ++ ascii "fused 1 2 8 11\n"
    ++ ascii "peeled 0 1 5 6\n"
    ++ ascii "peeled 0 2 7 7\n"
    ++ ascii "sweeps 8 6\n"
unfolding listed
apart-text = refl

-- loop 0 reads A1[i+2], loop 1 stores A1[i]: loop 1 has the shift 0 and the peel 2. One block is the first and the last, so nothing is peeled
pub one-block-text : listed store_after_read 1
    ≡ ascii "loop 0 0 0\n"
    ++ ascii "loop 1 0 2\n"
    ++ ascii "block 0 1 10\n"
    ++ ascii "fused 0 0 1 10\n"
    ++ ascii "fused 0 1 1 10\n"
    ++ ascii "sweeps 5 4\n"
unfolding listed
one-block-text = refl

-- T counts the indices from the least first to the greatest last; parts are cut to the loop's own bounds; empty ranges omitted, as loop 1's in block 0
pub staggered-text : listed staggered 3
    ≡ ascii "loop 0 0 0\n"
    ++ ascii "loop 1 1 1\n"
    ++ ascii "block 0 1 4\n"
    ++ ascii "block 1 5 8\n"
    ++ ascii "block 2 9 12\n"
    ++ ascii "fused 0 0 1 4\n"
    ++ ascii "fused 1 0 5 8\n"
    ++ ascii "fused 1 1 6 7\n"
    ++ ascii "fused 2 0 9 10\n"
    ++ ascii "fused 2 1 10 12\n"
    ++ ascii "peeled 1 1 8 9\n"
    ++ ascii "sweeps 5 4\n"
unfolding listed
staggered-text = refl
