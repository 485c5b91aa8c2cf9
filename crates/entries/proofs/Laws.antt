-- Shifts and peels, blocks and lists as rows of numbers.
use Prim.Native.Nat.{ℕ, zero, suc, ◌-◌, ◌*◌, ◌^◌, ◌≤◌, ◌<◌}
use native.Mathlib.Omega.{arith}
use mathlib.Core.Path.{◌≡◌, refl, sym, ap, subst, ◌∙◌}
use mathlib.Core.List.{List, [], ◌∷◌, ◌++◌, append-nil, append_assoc}
use lib.ListN.{length, get_or}
use borrow.Author.Tests.{lt-ltb, le-ltb}
use Rattle.order.specs.Sequences.{joined}
use Rattle.model.specs.Table.{count, iteration}
use Rattle.model.specs.declared.Iteration.{Iteration}
use Rattle.records.specs.declared.storage.Store.{Store}
use Rattle.reader.specs.Store.{loops_in, table_in}
use Rattle.reader.specs.Held.{Held, count_held}
use Rattle.grounds.specs.Accepted.{Valid}
use Rattle.chains.specs.TableGraph.{graph}
use Rattle.chains.specs.Walk.{shifts, peels}
use Rattle.chains.specs.Threshold.{threshold}
use Rattle.blocks.specs.declared.Axis.{Axis}
use Rattle.blocks.specs.Code.{Cuttable}
use Rattle.blocks.specs.declared.Range.{Range}
use Rattle.blocks.specs.Sums.{column}
use Rattle.lists.specs.Fusion.{fusion_in, work}
use Rattle.text.specs.declared.Writer.{Writer}
use Rattle.text.specs.Puts.{Puts}
use Rattle.numbers.specs.Numbers.{encoded}
use Rattle.plans.specs.Plans.{Settings, threshold_of, planned_for}
use Rattle.plans.proofs.Accepted.{threshold-small, named-accepts}
use Rattle.plans.specs.Code.{planned_in, Made, Laid}
use Rattle.plans.proofs.CodeLaws.{made-laid, named-made}
use Rattle.ranges.specs.Code.{range_of as range_in}
use Rattle.ranges.specs.Listed.{loops-are, few-blocks, cuttable, range-in, listed_small}
use Rattle.numbers.specs.Pairs.{pairs-length}
use Rattle.entries.specs.Entries.{amounts_of, blocks_of, pairs_of, loop_range, empty_as_zero, ranges_of}
use Rattle.entries.specs.Code.{Fitting}

-- A LIST of iterations
abbrev pub loop_at : List Iteration → ℕ → ℕ
loop_at l n = (get_or l n (iteration 0 0)).number

abbrev pub index_at : List Iteration → ℕ → ℕ
index_at l n = (get_or l n (iteration 0 0)).index

joined-front : {A : Type 0} (n : ℕ) (f : ℕ → List A) → joined (suc n) f ≡ f 0 ++ joined n (λ k. f (suc k))
joined-front zero f = sym (append-nil (f 0))
joined-front (suc n) f = ap (λ (l : List _). l ++ f (suc n)) (joined-front n f) ∙ append_assoc (f 0) (joined n (λ k. f (suc k))) (f (suc n))

list-pairs : (l : List Iteration) → joined (length l) (λ n. loop_at l n ∷ index_at l n ∷ []) ≡ pairs_of l
list-pairs [] = refl
list-pairs (x ∷ l) =
    joined-front (length l) (λ n. loop_at (x ∷ l) n ∷ index_at (x ∷ l) n ∷ []) ∙ ap (λ (w : List ℕ). x.number ∷ x.index ∷ w) (list-pairs l)

module _ (size : ℕ) (l : List Iteration) (e : size ≡ length l) where
  pub list_put : {old new : Writer} {most : ℕ} → Puts old (encoded (joined size (λ n. loop_at l n ∷ index_at l n ∷ []))) most new
      → Puts old (encoded (pairs_of l)) most new
  list_put {old} {new} {most} p =
      subst (λ (w : List ℕ). Puts old (encoded w) most new)
      (ap (λ (m : ℕ). joined m (λ n. loop_at l n ∷ index_at l n ∷ [])) e ∙ list-pairs l) p

  pub list-size : length (encoded (pairs_of l)) ≡ 8 * size
  list-size =
      ap (λ (w : List ℕ). length (encoded w)) (sym (list-pairs l)) ∙ pairs-length (length l) (loop_at l) (index_at l) ∙ ap (λ (n : ℕ). 8 * n) (sym e)

-- SHIFTS AND PEELS of the table in a store
module _ (c : Store) (xs ys : List ℕ) (h : Held c) (s : xs ≡ shifts (graph (table_in c))) (p : ys ≡ peels (graph (table_in c))) where
  pub amounts-are : (l : ℕ) → l ≡ loops_in c → joined l (λ k. column xs k ∷ column ys k ∷ []) ≡ amounts_of (table_in c)
  amounts-are l e = let n = count_held h in rw (e, s, p, n)

  pub threshold-is : (x : ℕ) → x ≡ threshold xs ys → x ≡ threshold_of (table_in c)
  threshold-is x e = e ∙ rw (s, p)

  pub threshold-fits : Valid (table_in c) → (x : ℕ) → x ≡ threshold xs ys → x < 2 ^ 32
  threshold-fits v x e = omega (arith, threshold-is x e, threshold-small (table_in c) v)

pub amounts-size : (c : Store) → Held c → (l : ℕ) → l ≡ loops_in c → length (encoded (amounts_of (table_in c))) ≡ 8 * l
amounts-size c h l e = pairs-length _ _ _ ∙ ap (λ (n : ℕ). 8 * n) (count_held h ∙ sym e)

-- BLOCKS of a plan
pub blocks-size : (a : Axis) → length (encoded (blocks_of (fusion_in a))) ≡ 8 * a.blocks
blocks-size a = pairs-length a.blocks (fusion_in a).edge (λ b. (fusion_in a).edge (suc b) - 1)

pub blocks-ask : (a : Axis) (c : Store) → Laid a c → (a.blocks ≤ 64) × Cuttable a
blocks-ask a c h = (few-blocks a c h, cuttable a c h)

-- LISTS of a plan: kept ranges give them
module _ (a : Axis) (c : Store) (h : Laid a c) (phase b : ℕ) (l : b < a.blocks) where
  pub list-fits : (size : ℕ) (xs : List Iteration) → xs ≡ work (table_in c) (fusion_in a) phase b
      → (size ≡ length (work (table_in c) (fusion_in a) phase b)) × (size ≤ 1052656) → Fitting size xs
  list-fits size xs e n =
      rw e
      (record {
        sized = n.0;
        few = omega arith;
        loop = λ i m. omega (arith, listed_small a c h phase b i l (omega arith));
        index = λ i m. omega (arith, listed_small a c h phase b i l (omega arith));
      })

-- RANGES: empty or not; the plan's
module _ (r : Range) where
  pub zero-empty : r.past ≤ r.from → empty_as_zero r ≡ record { from = 0; past = 0 }
  zero-empty l = rw (le-ltb r.from r.past l)

  pub zero-some : r.from < r.past → empty_as_zero r ≡ r
  zero-some l = rw (lt-ltb r.from r.past l)

pub ranges-are : (a : Axis) (c : Store) → Laid a c → (phase b : ℕ)
    → joined (loops_in c) (λ k. (empty_as_zero (range_in phase a c b k)).from ∷ (empty_as_zero (range_in phase a c b k)).past ∷ []) ≡ ranges_of phase b (planned_in a c)
ranges-are a c h phase b = go phase
  where
    same : (f g : ℕ → Range) (n : ℕ) → ((k : ℕ) → k < n → f k ≡ g k)
        → joined n (λ k. (empty_as_zero (f k)).from ∷ (empty_as_zero (f k)).past ∷ []) ≡ joined n (λ k. (empty_as_zero (g k)).from ∷ (empty_as_zero (g k)).past ∷ [])
    same f g zero e = refl
    same f g (suc n) e =
        ap (λ (l : List ℕ). l ++ ((empty_as_zero (f n)).from ∷ (empty_as_zero (f n)).past ∷ [])) (same f g n (λ k l. e k (omega arith)))
        ∙ ap (λ (r : Range). joined n (λ k. (empty_as_zero (g k)).from ∷ (empty_as_zero (g k)).past ∷ []) ++ ((empty_as_zero r).from ∷ (empty_as_zero r).past ∷ [])) (e n (omega arith))

    go : (m : ℕ) → joined (loops_in c) (λ k. (empty_as_zero (range_in m a c b k)).from ∷ (empty_as_zero (range_in m a c b k)).past ∷ []) ≡ ranges_of m b (planned_in a c)
    go zero =
        same (range_in 0 a c b) (loop_range 0 b (planned_in a c)) (loops_in c) (λ k l. range-in a c h 0 b k l)
        ∙ ap (λ (n : ℕ). joined n (λ k. (empty_as_zero (loop_range 0 b (planned_in a c) k)).from ∷ (empty_as_zero (loop_range 0 b (planned_in a c) k)).past ∷ [])) (loops-are a c h)
    go (suc m) =
        same (range_in (suc m) a c b) (loop_range 1 b (planned_in a c)) (loops_in c) (λ k l. range-in a c h (suc m) b k l)
        ∙ ap (λ (n : ℕ). joined n (λ k. (empty_as_zero (loop_range 1 b (planned_in a c) k)).from ∷ (empty_as_zero (loop_range 1 b (planned_in a c) k)).past ∷ [])) (loops-are a c h)

pub ranges-size : (a : Axis) (c : Store) → Laid a c → (phase b : ℕ) → length (encoded (ranges_of phase b (planned_in a c))) ≡ 8 * loops_in c
ranges-size a c h phase b = pairs-length (count (table_in c)) _ _ ∙ ap (λ (n : ℕ). 8 * n) (sym (loops-are a c h))

-- a call that names a processor has a plan with that processor
module _ (s : List ℕ) (w : Settings) (b : ℕ) (x : Axis) (c : Store) (m : Made (planned_for s w b) x c) where
  pub named-laid : Laid x c × (b < x.blocks)
  named-laid = (made-laid s w x c (named-made s w b x c m), (named-accepts s w b (planned_in x c) m.is).1)
