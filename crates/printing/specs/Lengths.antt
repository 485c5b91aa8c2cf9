-- How long a listing can be. A number below 10 ^ n has at most n digits, so a line is as long as its word, its blanks and those digits; the numbers
-- of loops and of blocks are counted with the digits that each has. The last block has no peeled part, and by a table's
-- own numbers the first loop has none either, since no chain ends at it; by hand it may. Laws alone.
use Rattle.std.specs.Prelude.{◌≡◌, refl, Bool, ℕ, zero, suc, ◌+◌, ◌-◌, ◌*◌, ◌^◌, ◌≤◌, ◌<◌, min, max, eqb}
use Rattle.std.proofs.Common.{ap, lt-ltb, le-ltb, eq-eqb}
use Rattle.std.proofs.Math.Bool.{true, false, cond}
use mathlib.Core.List.{List, [], ◌++◌}
use Rattle.std.proofs.Math.Decide.{dec_lt}
use native.Mathlib.Omega.{arith}
use Rattle.std.proofs.Math.ListN.{length, length-append}
use Rattle.model.specs.Table.{Table, count}
use Rattle.text.specs.Ascii.{ascii}
use Rattle.text.specs.Decimal.{decimal, digits}
use Rattle.text.proofs.Digits.{length-decimal}
use Rattle.text.proofs.Lengths.{two-most, three-most, four-most}
use Rattle.grounds.proofs.AcceptedLaws.{valid-last}
use Rattle.blocks.specs.declared.Range.{Range}
use Rattle.blocks.specs.Sums.{total}
use Rattle.blocks.specs.SumLaws.{total-up}
use Rattle.blocks.specs.Blocks.{block_at}
use Rattle.blocks.specs.Parts.{fused_part, peeled_part}
use Rattle.lists.specs.Fusion.{Fusion, own, fused_range, peeled_range}
use Rattle.plans.specs.Accepted.{Fit}
use Rattle.listing.specs.Listing.{loop_line, block_line, range_line, sweeps_line, each, range_lines, listing}

-- TEXTS one after the other, each of at most m k bytes
each-most : (n : ℕ) (f : ℕ → List ℕ) (m : ℕ → ℕ) → ((k : ℕ) → k < n → length (f k) ≤ m k) → length (each n f) ≤ total n m
each-most zero f m h = omega arith
each-most (suc n) f m h = omega (arith, length-append (each n f) (f n), each-most n f m (λ k l. h k (omega arith)), h n (omega arith))

-- at most N of them, which have `most` bytes together
each-few : (n N most : ℕ) (f : ℕ → List ℕ) (m : ℕ → ℕ) → n ≤ N → total N m ≡ most → ((k : ℕ) → k < n → length (f k) ≤ m k) → length (each n f) ≤ most
each-few n N most f m l e h = omega (arith, each-most n f m h, total-up n N m l)

each_none : (n : ℕ) (f : ℕ → List ℕ) → ((k : ℕ) → k < n → f k ≡ []) → each n f ≡ []
each_none zero f e = refl
each_none (suc n) f e = rw (each_none n f (λ k l. e k (omega arith)), e n (omega arith))

-- A RANGE that ends by 65,790: both its indices have at most five digits
module _ (word : List ℕ) (b k : ℕ) (r : Range) where
  range_none : r.past ≤ r.from → range_line word b k r ≡ []
  range_none l = rw (le-ltb r.from r.past l)

  range-most : r.past ≤ 65791 → length (range_line word b k r) ≤ length word + length (decimal b) + length (decimal k) + 15
  range-most h = go (dec_lt r.from r.past)
    where
      go : Dec (r.from < r.past) → length (range_line word b k r) ≤ length word + length (decimal b) + length (decimal k) + 15
      go (yes l) =
          rw (lt-ltb r.from r.past l)
          (let own : length (decimal b) ≤ length (decimal b) = omega arith in
          let loop : length (decimal k) ≤ length (decimal k) = omega arith in
          let from = length-decimal 4 r.from (omega arith) in
          let to = length-decimal 4 (r.past - 1) (omega arith) in
          let m = four-most word b k own loop r.from (r.past - 1) from to in
          omega (arith, m))
      go (no l) = rw (le-ltb r.from r.past (omega arith)) (omega arith)

-- A PART ends where its loop does, or before; the last block has no peeled part, nor has a loop with no shift and no peel
module _ (own block : Range) (P b s p : ℕ) where
  fused-past : (fused_part own block P b s p).past ≤ own.past
  unfolding fused_part
  fused-past = go (eqb (b + 1) P)
    where
      go : (x : Bool) → cond x own.past (min (block.past - s) own.past) ≤ own.past
      go true = omega arith
      go false = omega arith

  abbrev between : Range
  between = record { from = max (block.past - s) own.from; past = min (block.past + p) own.past }

  peeled-past : (peeled_part own block P b s p).past ≤ own.past
  unfolding peeled_part
  peeled-past = go (eqb (b + 1) P)
    where
      go : (x : Bool) → (cond x (record { from = 0; past = 0 }) between).past ≤ own.past
      go true = omega arith
      go false = omega arith

  peeled-last : b + 1 ≡ P → (peeled_part own block P b s p).past ≤ (peeled_part own block P b s p).from
  unfolding peeled_part
  peeled-last e = rw (eq-eqb (b + 1) P e) (omega arith)

  peeled-still : s ≡ 0 → p ≡ 0 → (peeled_part own block P b s p).past ≤ (peeled_part own block P b s p).from
  unfolding peeled_part
  peeled-still e g = go (eqb (b + 1) P)
    where
      go : (x : Bool) → (cond x (record { from = 0; past = 0 }) between).past ≤ (cond x (record { from = 0; past = 0 }) between).from
      go true = omega arith
      go false = omega arith

-- the bytes of a line, by its loop and its block, where a shift and a peel have at most d digits, and the first loop is still or not; of all loops
-- in a block
abbrev loop_most : ℕ → ℕ → ℕ
loop_most d k = length (decimal k) + (8 + 2 * d)

abbrev block_most : ℕ → ℕ
block_most b = length (decimal b) + 19

abbrev fused_most : ℕ → ℕ → ℕ
fused_most b k = 5 + length (decimal b) + length (decimal k) + 15

abbrev peeled_most : Bool → ℕ → ℕ → ℕ
peeled_most still b zero = cond still 0 (6 + length (decimal b) + length (decimal 0) + 15)
peeled_most still b (suc k) = 6 + length (decimal b) + length (decimal (suc k)) + 15

-- sixteen loops and sixty-four blocks, sixty-three of them with a peeled part, by computation
pub loops-four : total 16 (loop_most 4) ≡ 278
unfolding decimal digits
loops-four = refl

pub loops-five : total 16 (loop_most 5) ≡ 310
unfolding decimal digits
loops-five = refl

blocks-sum : total 64 block_most ≡ 1334
unfolding decimal digits
blocks-sum = refl

fused-sum : total 64 (λ b. total 16 (fused_most b)) ≡ 23776
unfolding decimal digits
fused-sum = refl

pub peeled-still-sum : total 63 (λ b. total 16 (peeled_most true b)) ≡ 22908
unfolding decimal digits
peeled-still-sum = refl

pub peeled-sum : total 63 (λ b. total 16 (peeled_most false b)) ≡ 24410
unfolding decimal digits
peeled-sum = refl

-- OF A PLAN whose shifts and peels have at most e + 1 digits, the first loop's being 0 where it is still, and of sweeps of three digits and two; all
-- lines of loops have so many bytes at most, and all peeled ranges
module _ (t : Table) (c : Fusion) (before after : ℕ) (fit : Fit t c) (e : ℕ)
    (small-shift : (k : ℕ) → c.shift k < 10 ^ suc e) (small-peel : (k : ℕ) → c.peel k < 10 ^ suc e) (still : Bool)
    (first : still ≡ true → (c.shift 0 ≡ 0) × (c.peel 0 ≡ 0)) (few-before : before < 10 ^ 3) (few-after : after < 10 ^ 2)
    (loops_most peeled_all : ℕ) (loops-sum : total 16 (loop_most (suc e)) ≡ loops_most) (peeled-all : total 63 (λ b. total 16 (peeled_most still b)) ≡ peeled_all) where
  few-loops : count t ≤ 16
  few-loops = fit.valid.few-loops

  ends : (k : ℕ) → k < count t → (own t k).past ≤ 65791
  ends k l = omega (arith, valid-last t fit.valid k l)

  loops-most : length (each (count t) (λ k. loop_line k (c.shift k) (c.peel k))) ≤ loops_most
  loops-most = each-few (count t) 16 loops_most _ (loop_most (suc e)) few-loops loops-sum line-most
    where
      line-most : (k : ℕ) → k < count t → length (loop_line k (c.shift k) (c.peel k)) ≤ loop_most (suc e) k
      line-most k l =
          let same : length (decimal k) ≤ length (decimal k) = omega arith in
          let shift = length-decimal e (c.shift k) (small-shift k) in
          let peel = length-decimal e (c.peel k) (small-peel k) in
          let m = three-most (ascii "loop") k (c.shift k) same shift (c.peel k) peel in
          omega (arith, m)

  blocks-most : length (each c.processors (λ b. block_line b (block_at c.edge b))) ≤ 1334
  blocks-most = each-few c.processors 64 1334 _ block_most fit.few blocks-sum line-most
    where
      line-most : (b : ℕ) → b < c.processors → length (block_line b (block_at c.edge b)) ≤ block_most b
      line-most b l =
          let same : length (decimal b) ≤ length (decimal b) = omega arith in
          let from = c.edge b in
          let to = c.edge (suc b) - 1 in
          let i = length-decimal 4 from (omega (arith, fit.small-edge b (omega arith))) in
          let j = length-decimal 4 to (omega (arith, fit.small-edge (suc b) l)) in
          let m = three-most (ascii "block") b from same i to j in
          omega (arith, m)

  fused-most : length (range_lines (ascii "fused") c.processors (count t) (fused_range t c)) ≤ 23776
  fused-most =
      each-few c.processors 64 23776 _ (λ b. total 16 (fused_most b)) fit.few fused-sum (λ b i.
      each-few (count t) 16 _ _ (fused_most b) few-loops refl (λ k l. range-most (ascii "fused") b k (fused_range t c b k) (past b k l)))
    where
      past : (b k : ℕ) → k < count t → (fused_range t c b k).past ≤ 65791
      past b k l = omega (arith, ends k l, fused-past (own t k) (block_at c.edge b) c.processors b (c.shift k) (c.peel k))

  abbrev peeled_of : ℕ → List ℕ
  peeled_of b = each (count t) (λ k. range_line (ascii "peeled") b k (peeled_range t c b k))

  peeled-last-none : (b : ℕ) → b + 1 ≡ c.processors → peeled_of b ≡ []
  peeled-last-none b e =
      each_none (count t) _ (λ k l.
      range_none (ascii "peeled") b k (peeled_range t c b k) (peeled-last (own t k) (block_at c.edge b) c.processors b (c.shift k) (c.peel k) e))

  peeled-each : (b : ℕ) → length (peeled_of b) ≤ total 16 (peeled_most still b)
  peeled-each b = each-few (count t) 16 _ _ (peeled_most still b) few-loops refl line-most
    where
      line-any : (k : ℕ) → k < count t → length (range_line (ascii "peeled") b k (peeled_range t c b k)) ≤ 6 + length (decimal b) + length (decimal k) + 15
      line-any k l =
          range-most (ascii "peeled") b k (peeled_range t c b k)
          (omega (arith, ends k l, peeled-past (own t k) (block_at c.edge b) c.processors b (c.shift k) (c.peel k)))

      line_first : (x : Bool) → still ≡ x → 0 < count t
          → length (range_line (ascii "peeled") b 0 (peeled_range t c b 0)) ≤ cond x 0 (6 + length (decimal b) + length (decimal 0) + 15)
      line_first true q l =
          let (shift, peel) = first q in
          rw (range_none (ascii "peeled") b 0 (peeled_range t c b 0) (peeled-still (own t 0) (block_at c.edge b) c.processors b (c.shift 0) (c.peel 0) shift peel))
          (omega arith)
      line_first false q l = line-any 0 l

      line-most : (k : ℕ) → k < count t → length (range_line (ascii "peeled") b k (peeled_range t c b k)) ≤ peeled_most still b k
      line-most zero l = line_first still refl l
      line-most (suc k) l = line-any (suc k) l

  peeled-most : length (range_lines (ascii "peeled") c.processors (count t) (peeled_range t c)) ≤ peeled_all
  peeled-most = go c.processors refl
    where
      go : (P : ℕ) → P ≡ c.processors → length (each P peeled_of) ≤ peeled_all
      go zero e = omega arith
      go (suc P) e =
          let m = each-few P 63 peeled_all peeled_of (λ b. total 16 (peeled_most still b)) (omega (arith, fit.few)) peeled-all (λ b l. peeled-each b) in
          omega (arith, m, length-append (each P peeled_of) (peeled_of P), ap length (peeled-last-none P (omega arith)))

  sweeps-most : length (sweeps_line before after) ≤ 14
  sweeps-most =
      let m = two-most (ascii "sweeps") before after (length-decimal 2 before few-before) (length-decimal 1 after few-after) in
      omega (arith, m)

  -- all together
  pub listing-most : length (listing t c before after) ≤ loops_most + 1334 + 23776 + peeled_all + 14
  unfolding listing
  listing-most =
      let l = each (count t) (λ k. loop_line k (c.shift k) (c.peel k)) in
      let b = each c.processors (λ b. block_line b (block_at c.edge b)) in
      let f = range_lines (ascii "fused") c.processors (count t) (fused_range t c) in
      let p = range_lines (ascii "peeled") c.processors (count t) (peeled_range t c) in
      five l b f p (sweeps_line before after) loops-most blocks-most fused-most peeled-most sweeps-most
    where
      five : (l b f p s : List ℕ) → length l ≤ loops_most → length b ≤ 1334 → length f ≤ 23776 → length p ≤ peeled_all → length s ≤ 14
          → length (l ++ b ++ f ++ p ++ s) ≤ loops_most + 1334 + 23776 + peeled_all + 14
      five l b f p s g h i j k = simp length-append (omega arith)
