-- Laws of columns: what stands at a position after one is filled, and that one test finds the pairs that can make a dependence.
use Prim.Native.Nat.{ℕ, zero, suc, ◌+◌, ◌-◌, ◌≤◌, ◌<◌}
use Rattle.std.specs.Prelude.{◌≡◌, ◌⊎◌, ◌≢◌, Bool, true, false, ◌&&◌, ◌||◌, cond, eqb, get_or, length}
use Rattle.std.proofs.Math.Path.{refl, ap}
use Rattle.std.proofs.Common.{sym, ◌∙◌, inl, inr, ⊎_elim, eq-eqb, ne_eqb}
use Rattle.std.proofs.Math.Bool.{or-true, and-true, and-false}
use mathlib.Core.List.{List, [], ◌∷◌, ◌++◌}
use mathlib.Core.List.Memᴰ.{head as mhere}
use mathlib.Core.List.Memᴰ.{tail as mthere}
use mathlib.Core.List.{Memᴰ as Mem}
use Rattle.std.proofs.Math.Decide.{ℕ_discrete}
use native.Mathlib.Omega.{arith}
use Rattle.std.proofs.Math.ListN.{length-set}
use Rattle.std.proofs.Math.Seq.{get_or-set_same, get_or-set_other}
use Rattle.model.specs.declared.Reference.{Reference}
use Rattle.model.specs.References.{touch}
use Rattle.columns.specs.Columns.{array_of, stored_of, ref_at, refs_from, Marked, Sized, searched_in, stored_as, with_reference}
use Rattle.columns.specs.declared.Columns.{Columns}

module _ (n : ℕ) (y : Reference) (c : Columns) where
  -- a reference that is put there leaves the columns as long as they were
  pub with-lengths : (length (with_reference n y c).arrays ≡ length c.arrays) × (length (with_reference n y c).stored ≡ length c.stored)
      × (length (with_reference n y c).loops ≡ length c.loops) × (length (with_reference n y c).offsets ≡ length c.offsets)
  unfolding with_reference
  with-lengths =
      (length-set c.arrays n y.array, length-set c.stored n (stored_as y), length-set c.loops n y.number, length-set c.offsets n y.offset)

  pub with-sized : Sized c → Sized (with_reference n y c)
  unfolding with_reference
  with-sized z = record {
    arrays = length-set c.arrays n y.array ∙ z.arrays;
    stored = length-set c.stored n (stored_as y) ∙ z.stored;
    loops = length-set c.loops n y.number ∙ z.loops;
    offsets = length-set c.offsets n y.offset ∙ z.offsets;
  }

  -- what stands elsewhere is as it was
  pub other-same : (i : ℕ) → i ≢ n → ref_at (with_reference n y c) i ≡ ref_at c i
  unfolding with_reference
  other-same i d =
      rw (
        get_or-set_other c.arrays n i y.array 0 d,
        get_or-set_other c.stored n i (stored_as y) 0 d,
        get_or-set_other c.loops n i y.number 0 d,
        get_or-set_other c.offsets n i y.offset 0 d,
      )

  pub other-marked : (i : ℕ) → i ≢ n → Marked c i → Marked (with_reference n y c) i
  unfolding with_reference
  other-marked i d m = rw (get_or-set_other c.arrays n i y.array 0 d, get_or-set_other c.stored n i (stored_as y) 0 d) m

  -- what stands at n
  module _ (few : n < 576) (z : Sized c) where
    stores-here : (b : Bool) (a : ℕ) → a < 16 → eqb (cond b a 16) a ≡ b
    stores-here true a l = eq-eqb a a refl
    stores-here false a l = ne_eqb 16 a (λ e. omega arith)

    pub here-same : y.array < 16 → ref_at (with_reference n y c) n ≡ y
    unfolding with_reference
    here-same l =
        rw (
          get_or-set_same c.arrays n y.array 0 (omega (arith, z.arrays)),
          get_or-set_same c.stored n (stored_as y) 0 (omega (arith, z.stored)),
          get_or-set_same c.loops n y.number 0 (omega (arith, z.loops)),
          get_or-set_same c.offsets n y.offset 0 (omega (arith, z.offsets)),
          stores-here y.stores y.array l,
        )

    pub here-marked : Marked (with_reference n y c) n
    unfolding with_reference
    here-marked =
        rw (get_or-set_same c.arrays n y.array 0 (omega (arith, z.arrays)), get_or-set_same c.stored n (stored_as y) 0 (omega (arith, z.stored))) (go y.stores)
      where
        go : (b : Bool) → (cond b y.array 16 ≡ y.array) ⊎ (cond b y.array 16 ≡ 16)
        go true = inl refl
        go false = inr refl

-- SEVERAL REFERENCES
module _ (c : Columns) where
  refs-last : (i n : ℕ) → refs_from c i (suc n) ≡ refs_from c i n ++ (ref_at c (i + n) ∷ [])
  unfolding refs_from
  refs-last i zero = let e : i + 0 ≡ i = omega arith in rw e
  refs-last i (suc n) = let e : i + suc n ≡ suc i + n = omega arith in ap (λ (l : List Reference). ref_at c i ∷ l) (rw e (refs-last (suc i) n))

  pub refs-length : (n i : ℕ) → length (refs_from c i n) ≡ n
  unfolding refs_from
  refs-length zero i = refl
  refs-length (suc n) i = ap suc (refs-length n (suc i))

  pub refs-mem : (n i x : ℕ) → i ≤ x → x < i + n → Mem (ref_at c x) (refs_from c i n)
  unfolding refs_from
  refs-mem zero i x l m = absurd (omega arith)
  refs-mem (suc n) i x l m = go (ℕ_discrete x i) (refs-mem n (suc i) x)
    where
      go : Dec (x ≡ i) → (suc i ≤ x → x < suc i + n → Mem (ref_at c x) (refs_from c (suc i) n)) → Mem (ref_at c x) (ref_at c i ∷ refs_from c (suc i) n)
      go (yes e) ih = mhere (ap (ref_at c) e)
      go (no e) ih = mthere (ih (omega arith) (omega arith))

  pub refs-next : (i past : ℕ) → i < past → refs_from c i (past - i) ≡ ref_at c i ∷ refs_from c (suc i) (past - suc i)
  unfolding refs_from
  refs-next i past l = let e : past - i ≡ suc (past - suc i) = omega arith in rw e

  pub refs_end : (i past : ℕ) → past ≤ i → refs_from c i (past - i) ≡ []
  unfolding refs_from
  refs_end i past l = let e : past - i ≡ 0 = omega arith in rw e

  -- the first of them
  pub refs-first : (n m i : ℕ) → refs_from c i (n + m) ≡ refs_from c i n ++ refs_from c (i + n) m
  unfolding refs_from
  refs-first zero m i = let e : 0 + m ≡ m = omega arith in let f : i + 0 ≡ i = omega arith in rw (e, f)
  refs-first (suc n) m i =
      let e : suc n + m ≡ suc (n + m) = omega arith in
      let f : i + suc n ≡ suc i + n = omega arith in
      rw (e, f) (ap (λ (l : List Reference). ref_at c i ∷ l) (refs-first n m (suc i)))

refs-same : (c d : Columns) (n i : ℕ) → ((x : ℕ) → i ≤ x → x < i + n → ref_at d x ≡ ref_at c x) → refs_from d i n ≡ refs_from c i n
unfolding refs_from
refs-same c d zero i h = refl
refs-same c d (suc n) i h = rw (h i (omega arith) (omega arith), refs-same c d n (suc i) (λ x l m. h x (omega arith) (omega arith)))

-- one more
pub refs-with : (n : ℕ) (y : Reference) (c : Columns) → n < 576 → Sized c → y.array < 16 → refs_from (with_reference n y c) 0 (suc n) ≡ refs_from c 0 n ++ (y ∷ [])
refs-with n y c l z a =
    let e : 0 + n ≡ n = omega arith in
    let d = with_reference n y c in
    (rw (e, here-same n y c l z a) at (refs-last d 0 n))
    ∙ ap (λ (r : List Reference). r ++ (y ∷ [])) (refs-same c d n 0 (λ x u v. other-same n y c x (λ q. omega arith)))

-- THE TEST OF A PAIR: y's array stands at the position of x in the column that y's partners are in exactly if the two refer to one array and one stores
pub pair-test : (c : Columns) (x : ℕ) (y : Reference) → Marked c x → y.array < 16 → eqb (get_or (searched_in c y.stores) x 0) y.array ≡ touch (ref_at c x) y
unfolding touch
pair-test c x y m l = go y.stores m
  where
    stored : (a q : ℕ) → eqb a q ≡ (eqb a q && (eqb a a || false))
    stored a q = rw (eq-eqb a a refl) (sym (and-true (eqb a q)))

    read : (a q : ℕ) → q < 16 → Dec (a ≡ q) → eqb 16 q ≡ (eqb a q && (eqb 16 a || false))
    read a q l (yes f) = rw (f, ne_eqb 16 q (λ z. omega arith)) (sym (and-false (eqb q q)))
    read a q l (no f) = rw (ne_eqb 16 q (λ z. omega arith), ne_eqb a q f)

    go : (b : Bool) → Marked c x → eqb (get_or (cond b c.arrays c.stored) x 0) y.array ≡ (eqb (array_of c x) y.array && (eqb (stored_of c x) (array_of c x) || b))
    go true m =
        sym (and-true (eqb (array_of c x) y.array))
        ∙ ap (λ (b : Bool). eqb (array_of c x) y.array && b) (sym (or-true (eqb (stored_of c x) (array_of c x))))
    go false m =
        ⊎_elim (λ e. rw e (stored (array_of c x) y.array)) (λ e. rw e (read (array_of c x) y.array l (ℕ_discrete (array_of c x) y.array))) m
