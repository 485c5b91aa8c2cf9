-- Nothing is asked of loops that are not there: lines that agree on those that are make one text. Laws alone.
use Rattle.std.specs.Prelude.{◌≡◌, refl, List, ℕ, zero, suc, ◌<◌}
use Rattle.std.proofs.Common.{arith}
use Rattle.blocks.specs.declared.Range.{Range}
use Rattle.listing.specs.Listing.{each, range_lines}

pub each_same : (n : ℕ) (f g : ℕ → List ℕ) → ((k : ℕ) → k < n → f k ≡ g k) → each n f ≡ each n g
each_same zero f g e = refl
each_same (suc n) f g e = rw (each_same n f g (λ k l. e k (omega arith)), e n (omega arith))

pub ranges-same : (word : List ℕ) (P n : ℕ) (part part' : ℕ → ℕ → Range) → ((b k : ℕ) → k < n → part b k ≡ part' b k)
    → range_lines word P n part ≡ range_lines word P n part'
ranges-same word P n part part' e = each_same P _ _ (λ b h. each_same n _ _ (λ k l. rw (e b k l)))
