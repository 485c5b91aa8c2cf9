-- Lines one after the other.
use mathlib.Core.Path.{◌≡◌, ap, ◌∙◌}
use mathlib.Core.List.{List, [], ◌∷◌, ◌++◌}
use Prim.Native.Nat.{ℕ, suc, ◌+◌, ◌-◌, ◌*◌, ◌≤◌, ◌<◌}
use native.Mathlib.Nat.{mul-suc}
use native.Mathlib.Numerals.{add-one}
use native.Mathlib.Omega.{arith}
use borrow.Author.Tests.{lt-ltb, le-ltb}
use Rattle.records.specs.declared.storage.Store.{Store}
use Rattle.reader.specs.Store.{loops_in, table_in}
use Rattle.text.specs.Line.{line}
use Rattle.text.specs.declared.Writer.{Writer}
use Rattle.text.specs.Puts.{Puts, puts-none, puts_then, puts-most}
use Rattle.blocks.specs.declared.Axis.{Axis}
use Rattle.blocks.specs.declared.Range.{Range}
use Rattle.blocks.specs.Sums.{column}
use Rattle.blocks.specs.Code.{block_in}
use Rattle.lists.specs.Fusion.{fusion_in}
use Rattle.plans.specs.Code.{Laid}
use Rattle.ranges.specs.Code.{range_of}
use Rattle.ranges.specs.Listed.{loops-are, range-in, range_in}
use Rattle.listing.specs.Listing.{loop_line, block_line, range_line, sweeps_line, each, range_lines, phase_name, listing}
use Rattle.listing.proofs.Same.{ranges-same}

-- A RANGE, empty or not
module _ (word : List ℕ) (b k : ℕ) (r : Range) where
  pub range-empty : {old : Writer} → r.past ≤ r.from → Puts old (range_line word b k r) 100 old
  range-empty {old} l = rw (le-ltb r.from r.past l) (puts-most 100 (omega arith) (puts-none old))

  pub range-some : {old new : Writer} → r.from < r.past → Puts old (line word (b ∷ k ∷ r.from ∷ (r.past - 1) ∷ [])) 100 new
      → Puts old (range_line word b k r) 100 new
  range-some l p = rw (lt-ltb r.from r.past l) p

-- LINES one after the other, each of at most m bytes: k of n are written
pub record Lines (old : Writer) (m : ℕ) (f : ℕ → List ℕ) (n k : ℕ) (new : Writer) : Type 0 where
  pub within : k ≤ n
  pub puts : Puts old (each k f) (m * k) new

module _ {old : Writer} {m : ℕ} {f : ℕ → List ℕ} {n : ℕ} where
  pub lines_start : Lines old m f n 0 old
  lines_start = record { within = omega arith; puts = puts-most (m * 0) (omega arith) (puts-none old) }

  pub lines_next : {k : ℕ} {mid new : Writer} → Lines old m f n k mid → k < n → Puts mid (f k) m new → Lines old m f n (k + 1) new
  lines_next {k} inv l p =
      rw (add-one k) (record { within = l; puts = puts-most (m * suc k) (omega (arith, mul-suc m k)) (puts_then inv.puts p) })

  pub lines_end : (most : ℕ) {k : ℕ} {new : Writer} → m * n ≤ most → Lines old m f n k new → n ≤ k → Puts old (each n f) most new
  lines_end most {k} h inv l =
      let e : k ≡ n = omega (arith, inv.within) in
      puts-most most h (rw e at inv.puts)

-- THE LINES ARE THE LISTING'S
module _ (a : Axis) (before after : ℕ) where
  -- of n loops, with the ranges f n in phase n
  abbrev pub lines : ℕ → (ℕ → ℕ → ℕ → Range) → List ℕ
  lines n f =
      each n (λ k. loop_line k (column a.shifts k) (column a.peels k))
      ++ each a.blocks (λ b. block_line b (block_in a b))
      ++ range_lines (phase_name 0) a.blocks n (f 0)
      ++ range_lines (phase_name 1) a.blocks n (f 1)
      ++ sweeps_line before after

  lines_same : (n : ℕ) (f g : ℕ → ℕ → ℕ → Range) → ((p b k : ℕ) → k < n → f p b k ≡ g p b k) → lines n f ≡ lines n g
  lines_same n f g e =
      let fused = ranges-same (phase_name 0) a.blocks n (f 0) (g 0) (e 0) in
      let peeled = ranges-same (phase_name 1) a.blocks n (f 1) (g 1) (e 1) in
      rw (fused, peeled)

  pub listed : (c : Store) → Laid a c → lines (loops_in c) (λ p. range_of p a c) ≡ listing (table_in c) (fusion_in a) before after
  unfolding listing
  listed c h =
      lines_same (loops_in c) (λ p. range_of p a c) (range_in a c h) (λ p b k l. range-in a c h p b k l)
      ∙ ap (λ (n : ℕ). lines n (range_in a c h)) (loops-are a c h)
