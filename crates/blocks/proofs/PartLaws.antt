-- Laws of parts: which iterations are in them.
use Rattle.std.specs.Prelude.{◌≡◌, ◌↔◌, false, ℕ, suc, ◌+◌, ◌<◌}
use Rattle.std.proofs.Math.Decide.{ℕ_discrete}
use native.Mathlib.Omega.{arith}
use borrow.Author.Tests.{eq-eqb, ne_eqb}
use Rattle.blocks.specs.Blocks.{edge, block_at, is_short}
use Rattle.blocks.proofs.LineLaws.{before-up, short-not}
use Rattle.blocks.specs.Index.{Fused, Peeled, Gaps}
use Rattle.blocks.specs.declared.Range.{Range}
use Rattle.blocks.specs.Parts.{fused_part, peeled_part}
use Rattle.blocks.specs.PartLaws.{In}

-- the ranges have the iterations of the loop that are fused in the block, and those that are peeled by it
module _ (P : ℕ) (E : ℕ → ℕ) (own : Range) (s p i b : ℕ) (proper : b < P) where
  pub in-fused : In i (fused_part own (block_at E b) P b s p) ↔ (In i own × Fused P E s p i b)
  unfolding fused_part
  in-fused = go (ℕ_discrete b 0) (ℕ_discrete (b + 1) P)
    where
      go : Dec (b ≡ 0) → Dec (b + 1 ≡ P) → In i (fused_part own (block_at E b) P b s p) ↔ (In i own × Fused P E s p i b)
      go (yes e) (yes f) =
          simp (eq-eqb b 0 e, eq-eqb (b + 1) P f) (
            λ q. (q, record { block = proper; low = λ l. absurd (omega arith); high = λ l. absurd (omega arith) }),
            λ q. q.0,
          )
      go (yes e) (no f) =
          simp (eq-eqb b 0 e, ne_eqb (b + 1) P f) (
            λ q. ((q.0, omega arith), record { block = proper; low = λ l. absurd (omega arith); high = λ l. omega arith }),
            λ q. (q.0.0, omega (arith, q.1.high (omega arith))),
          )
      go (no e) (yes f) =
          simp (ne_eqb b 0 e, eq-eqb (b + 1) P f) (
            λ q. ((omega arith, q.1), record { block = proper; low = λ l. omega arith; high = λ l. absurd (omega arith) }),
            λ q. (omega (arith, q.1.low (omega arith)), q.0.1),
          )
      go (no e) (no f) =
          simp (ne_eqb b 0 e, ne_eqb (b + 1) P f) (
            λ q. ((omega arith, omega arith), record { block = proper; low = λ l. omega arith; high = λ l. omega arith }),
            λ q. (omega (arith, q.1.low (omega arith)), omega (arith, q.1.high (omega arith))),
          )

  pub in-peeled : In i (peeled_part own (block_at E b) P b s p) ↔ (In i own × Peeled P E s p i b)
  unfolding peeled_part
  in-peeled = go (ℕ_discrete (b + 1) P)
    where
      go : Dec (b + 1 ≡ P) → In i (peeled_part own (block_at E b) P b s p) ↔ (In i own × Peeled P E s p i b)
      go (yes f) = simp (eq-eqb (b + 1) P f) (λ q. absurd (omega arith), λ q. absurd (omega (arith, q.1.block)))
      go (no f) =
          simp (ne_eqb (b + 1) P f) (
            λ q. ((omega arith, omega arith), record { block = omega arith; low = omega arith; high = omega arith }),
            λ q. (omega (arith, q.1.low), omega (arith, q.1.high)),
          )

-- where ground 11 is not given, its blocks have the gaps
pub not-short-gaps : (first T W P threshold : ℕ) → 0 < P → is_short T W P threshold ≡ false → Gaps P (edge first T W P) threshold
not-short-gaps first T W P threshold pos e = record {
  some = pos;
  gap = λ b l i.
      let wide = (short-not T W P threshold e).1 (omega arith) b (omega arith) in
      omega (arith, before-up T W P b (suc b) (omega arith));
}
