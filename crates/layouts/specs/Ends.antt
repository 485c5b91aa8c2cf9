-- Where the phases of one processor end: written, and read off again.
use Rattle.std.specs.Prelude.{ℕ, zero, suc, ◌≤◌, ◌<◌, ◌≡◌, List, [], length, get_or, set}
use Rattle.std.proofs.Common.{arith, ap, ◌∙◌, length-set, get_or-set_same, get_or-set_other}
use Rattle.std.proofs.Math.Decide.{ℕ_discrete}
use Rattle.records.specs.declared.storage.Store.{Store}
use Rattle.reader.specs.Store.{table_in}
use Rattle.blocks.specs.declared.Axis.{Axis}
use Rattle.blocks.specs.Sums.{column}
use Rattle.lists.specs.Fusion.{fusion_in, work}
use Rattle.turns.specs.Turn.{before}
use Rattle.barriers.specs.Code.{EndsFit, Rows}
use Rattle.layouts.specs.Layout.{work_in, with_end, with_ends}

-- ONE NUMBER
module _ (n b v : ℕ) (xs : List (List ℕ)) where
  end-other-row : (m d : ℕ) → (m ≡ n → ⊥) → column (get_or (with_end n b v xs) m []) d ≡ column (get_or xs m []) d
  end-other-row m d p = ap (λ (row : List ℕ). column row d) (get_or-set_other xs n m (set (get_or xs n []) b v) [] p)

  module _ (rows : Rows xs) (proper : n < 3) where
    end-row : get_or (with_end n b v xs) n [] ≡ set (get_or xs n []) b v
    end-row = get_or-set_same xs n (set (get_or xs n []) b v) [] (omega (arith, rows.rows))

    end-here : b < 64 → column (get_or (with_end n b v xs) n []) b ≡ v
    end-here few = ap (λ (row : List ℕ). column row b) end-row ∙ get_or-set_same (get_or xs n []) b v 0 (omega (arith, rows.each n proper))

    end-other : (m d : ℕ) → (d ≡ b → ⊥) → column (get_or (with_end n b v xs) m []) d ≡ column (get_or xs m []) d
    end-other m d q = go (ℕ_discrete m n)
      where
        go : Dec (m ≡ n) → column (get_or (with_end n b v xs) m []) d ≡ column (get_or xs m []) d
        go (yes e) = rw e (ap (λ (row : List ℕ). column row d) end-row ∙ get_or-set_other (get_or xs n []) b d v 0 q)
        go (no p) = end-other-row m d p

    end-rows : Rows (with_end n b v xs)
    end-rows = record { rows = simp length-set rows.rows; each = λ m l. go m l (ℕ_discrete m n) }
      where
        go : (m : ℕ) → m < 3 → Dec (m ≡ n) → length (get_or (with_end n b v xs) m []) ≡ 64
        go m l (yes e) = rw (e, end-row) (simp length-set (rows.each n proper))
        go m l (no p) = ap length (get_or-set_other xs n m (set (get_or xs n []) b v) [] p) ∙ rows.each m l

-- BOTH
module _ (a : Axis) (c : Store) (b : ℕ) where
  module _ (xs : List (List ℕ)) (rows : Rows xs) where
    abbrev first : List (List ℕ)
    first = with_end 0 b (before (work_in a c) 1 b) xs

    one : Rows first
    one = end-rows 0 b (before (work_in a c) 1 b) xs rows (omega arith)

    pub ends-rows : Rows (with_ends a c b xs)
    ends-rows = end-rows 1 b (before (work_in a c) 2 b) first one (omega arith)

    pub ends-other : (n d : ℕ) → (n < 2 → d ≡ b → ⊥) → column (get_or (with_ends a c b xs) n []) d ≡ column (get_or xs n []) d
    ends-other zero d q =
        end-other 1 b (before (work_in a c) 2 b) first one (omega arith) 0 d (q (omega arith))
        ∙ end-other 0 b (before (work_in a c) 1 b) xs rows (omega arith) 0 d (q (omega arith))
    ends-other (suc zero) d q =
        end-other 1 b (before (work_in a c) 2 b) first one (omega arith) 1 d (q (omega arith))
        ∙ end-other 0 b (before (work_in a c) 1 b) xs rows (omega arith) 1 d (q (omega arith))
    ends-other (suc (suc n)) d q =
        end-other-row 1 b (before (work_in a c) 2 b) first (suc (suc n)) d (λ z. omega arith)
        ∙ end-other-row 0 b (before (work_in a c) 1 b) xs (suc (suc n)) d (λ z. omega arith)

    module _ (few : b < 64) where
      pub ends-here : (n : ℕ) → n < 2 → column (get_or (with_ends a c b xs) n []) b ≡ before (work_in a c) (suc n) b
      ends-here zero l =
          end-other-row 1 b (before (work_in a c) 2 b) first 0 b (λ z. omega arith)
          ∙ end-here 0 b (before (work_in a c) 1 b) xs rows (omega arith) few
      ends-here (suc zero) l = end-here 1 b (before (work_in a c) 2 b) first one (omega arith) few
      ends-here (suc (suc n)) l = absurd (omega arith)

      pub ends-small : EndsFit xs → length (work (table_in c) (fusion_in a) 0 b) ≤ 1052656 → length (work (table_in c) (fusion_in a) 1 b) ≤ 1052656
          → EndsFit (with_ends a c b xs)
      ends-small s f g n d = go n (ℕ_discrete d b)
        where
          go : (n : ℕ) → Dec (d ≡ b) → column (get_or (with_ends a c b xs) n []) d ≤ 3200000
          go n (no e) = omega (arith, ends-other n d (λ z. e), s n d)
          go zero (yes e) = rw e (omega (arith, ends-here 0 (omega arith)))
          go (suc zero) (yes e) = rw e (omega (arith, ends-here 1 (omega arith)))
          go (suc (suc n)) (yes e) = omega (arith, ends-other (suc (suc n)) d (λ z. absurd (omega arith)), s (suc (suc n)) d)
