-- The parts of a loop in a block, as ranges with exclusive ends. Assumes nothing.
use Rattle.std.specs.Prelude.{cond, ℕ, ◌+◌, ◌-◌, min, max, eqb}
use Rattle.blocks.specs.declared.Range.{Range}

-- a loop's own bounds are `own`, its shift s and its peel p; block b of P is `block`.
-- The block runs from a to e, and past = e + 1. Fused: a + p to e - s, so it is past at past - s, which is right where e - s is -1 too.
-- The first block has no lower end and the last no upper end but the loop's own
unfoldable pub fused_part : Range → Range → ℕ → ℕ → ℕ → ℕ → Range
fused_part own block P b s p = record {
  from = cond (eqb b 0) own.from (max (block.from + p) own.from);
  past = cond (eqb (b + 1) P) own.past (min (block.past - s) own.past);
}

-- peeled, for every block but the last: e - s + 1 to e + p
unfoldable pub peeled_part : Range → Range → ℕ → ℕ → ℕ → ℕ → Range
peeled_part own block P b s p =
    cond (eqb (b + 1) P) (record { from = 0; past = 0 })
    (record { from = max (block.past - s) own.from; past = min (block.past + p) own.past })
