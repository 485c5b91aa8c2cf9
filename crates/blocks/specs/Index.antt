-- One index: the part that iteration i of a loop with shift s and peel p stands in, for P blocks by their ends: block b begins at E b
-- and is past at E (b + 1). Numbers alone, so that each index of a grid can use it. Assumes nothing.
use Rattle.std.specs.Prelude.{◌≡◌, refl, ◌⊎◌, ℕ, zero, suc, ◌+◌, ◌-◌, ◌≤◌, ◌<◌}
use Rattle.std.proofs.Common.{sym, ◌∙◌, inl, inr, lt_of_not-le, arith}
use Rattle.std.proofs.Math.Decide.{dec_le, dec_lt}
use Rattle.order.specs.Lists.{if, if_no}

-- both of two facts
abbrev pub both : {A B : Type 0} → Dec A → Dec B → Dec (A × B)
both (yes a) (yes b) = yes (a, b)
both (yes a) (no b) = no (λ h. b h.1)
both (no a) b = no (λ h. a h.0)

-- what iteration i reaches, with shift s and peel p, runs from i - p to i + s. The reach of one lies inside the reach of another
pub record Contained (s p i s' p' i' : ℕ) : Type 0 where
  pub up : i + s ≤ i' + s'
  pub down : i' + p ≤ i + p'

-- a dependence with the amounts backward and forward does that, where shift and peel are enough for it
pub contained : (s p i s' p' i' backward forward : ℕ) → i' + backward ≡ i + forward → s + backward ≤ s' → p + forward ≤ p'
    → Contained s p i s' p' i'
contained s p i s' p' i' backward forward e f g = record { up = omega arith; down = omega arith }

module _ (P : ℕ) (E : ℕ → ℕ) where
  -- i is fused in block b: its reach lies inside. The first block has no lower end, the last no upper end
  pub record Fused (s p i b : ℕ) : Type 0 where
    pub block : b < P
    pub low : 0 < b → E b + p ≤ i
    pub high : suc b < P → i + s < E (suc b)

  -- i is peeled by block b, which is not the last: its reach holds the last index of b and the next one
  pub record Peeled (s p i b : ℕ) : Type 0 where
    pub block : suc b < P
    pub low : E (suc b) ≤ i + s
    pub high : i < E (suc b) + p

  -- there is a block, and those between the first and the last are no smaller than w. So their ends rise
  pub record Gaps (w : ℕ) : Type 0 where
    pub some : 0 < P
    pub gap : (b : ℕ) → 0 < b → suc b < P → E b + w ≤ E (suc b)

  pub gaps-less : (v w : ℕ) → v ≤ w → Gaps w → Gaps v
  gaps-less v w l g = record { some = g.some; gap = λ b i j. omega (arith, g.gap b i j) }

  -- of the blocks up to b, the last one whose fused part begins no later than i
  abbrev pub last_begun : ℕ → ℕ → ℕ → ℕ
  last_begun p i zero = 0
  last_begun p i (suc b) = if (dec_le (E (suc b) + p) i) (suc b) (last_begun p i b)

  -- the block that i belongs to, and in which phase: 0 if it is fused there, 1 if it is peeled
  abbrev pub owner : ℕ → ℕ → ℕ
  owner p i = last_begun p i (P - 1)

  abbrev pub phase : ℕ → ℕ → ℕ → ℕ
  phase s p i = if (both (dec_lt (suc (owner p i)) P) (dec_le (E (suc (owner p i))) (i + s))) 1 0

  -- block b has begun by i, and the next one has not
  record Begun (p i b : ℕ) : Type 0 where
    block : b < P
    low : 0 < b → E b + p ≤ i
    high : suc b < P → i < E (suc b) + p

  last-begun : (p i b : ℕ) → b < P → (suc b < P → i < E (suc b) + p) → Begun p i (last_begun p i b)
  last-begun p i zero l h = record { block = l; low = λ q. absurd (omega arith); high = h }
  last-begun p i (suc b) l h = go (dec_le (E (suc b) + p) i) (last-begun p i b (omega arith))
    where
      go : (d : Dec (E (suc b) + p ≤ i)) → ((suc b < P → i < E (suc b) + p) → Begun p i (last_begun p i b))
          → Begun p i (if d (suc b) (last_begun p i b))
      go (yes d) ih = record { block = l; low = λ q. d; high = h }
      go (no d) ih = ih (λ q. omega arith)

  owner-begun : (p i : ℕ) → 0 < P → Begun p i (owner p i)
  owner-begun p i pos = last-begun p i (P - 1) (omega arith) (λ l. absurd (omega arith))

  -- SOME PART: every i is in one
  pub in-part : (s p i : ℕ) → 0 < P
      → ((phase s p i ≡ 0) × Fused s p i (owner p i)) ⊎ ((phase s p i ≡ 1) × Peeled s p i (owner p i))
  in-part s p i pos = go (both (dec_lt (suc (owner p i)) P) (dec_le (E (suc (owner p i))) (i + s)))
    where
      h : Begun p i (owner p i)
      h = owner-begun p i pos

      go : (d : Dec ((suc (owner p i) < P) × (E (suc (owner p i)) ≤ i + s)))
          → ((◌≡◌ {A = ℕ} (if d 1 0) 0) × Fused s p i (owner p i)) ⊎ ((◌≡◌ {A = ℕ} (if d 1 0) 1) × Peeled s p i (owner p i))
      go (yes d) = inr (refl, record { block = d.0; low = d.1; high = h.high d.0 })
      go (no d) = inl (refl, record { block = h.block; low = h.low; high = λ l. lt_of_not-le (λ m. d (l, m)) })

  -- ONE PART: and in no other, if the gaps are no smaller than s + p
  module _ (s p : ℕ) (gaps : Gaps (s + p)) where
    open gaps use {some, gap}

    edge-up : (a b : ℕ) → 0 < a → a ≤ b → b < P → E a ≤ E b
    edge-up a zero q l i = absurd (omega arith)
    edge-up a (suc b) q l i = go (dec_le a b) (edge-up a b q)
      where
        go : Dec (a ≤ b) → (a ≤ b → b < P → E a ≤ E b) → E a ≤ E (suc b)
        go (yes m) ih = omega (arith, ih m (omega arith), gap b (omega arith) i)
        go (no m) ih = let e : a ≡ suc b = omega arith in rw e (omega arith)

    begun-less : (i a b : ℕ) → Begun p i a → Begun p i b → a < b → ⊥
    begun-less i a b h k l =
        let m : b < P = k.block in
        omega (arith, h.high (omega arith), k.low (omega arith), edge-up (suc a) b (omega arith) l m)

    begun-one : (i a b : ℕ) → Begun p i a → Begun p i b → a ≡ b
    begun-one i a b h k = go (dec_lt a b) (dec_lt b a)
      where
        go : Dec (a < b) → Dec (b < a) → a ≡ b
        go (yes l) m = absurd (begun-less i a b h k l)
        go (no l) (yes m) = absurd (begun-less i b a k h m)
        go (no l) (no m) = omega arith

    pub fused-one : (i b : ℕ) → Fused s p i b → (owner p i ≡ b) × (phase s p i ≡ 0)
    fused-one i b f = (
      e,
      if_no (both (dec_lt (suc (owner p i)) P) (dec_le (E (suc (owner p i))) (i + s))) 1 0 (rw e (λ (l, m). omega (arith, f.high l))),
    )
      where
        e : owner p i ≡ b
        e = begun-one i (owner p i) b (owner-begun p i some) (record { block = f.block; low = f.low; high = λ l. omega (arith, f.high l) })

    pub peeled-one : (i b : ℕ) → Peeled s p i b → (owner p i ≡ b) × (phase s p i ≡ 1)
    peeled-one i b f = (e, go (in-part s p i some))
      where
        l : suc b < P
        l = f.block

        e : owner p i ≡ b
        e =
            begun-one i (owner p i) b (owner-begun p i some)
            (record { block = omega arith; low = λ q. omega (arith, gap b q l, f.low); high = λ q. f.high })

        go : ((phase s p i ≡ 0) × Fused s p i (owner p i)) ⊎ ((phase s p i ≡ 1) × Peeled s p i (owner p i)) → phase s p i ≡ 1
        go (inl (q, g)) = absurd (omega (arith, f.low, (rw e at g).high l))
        go (inr (q, g)) = q

  -- WHAT A DEPENDENCE KEEPS: where the reach of the earlier iteration lies inside that of the later one, the two are in one part, or
  -- the earlier one is fused and the later one peeled
  pub same-part : (s p i s' p' i' : ℕ) → Gaps (s + p) → Gaps (s' + p') → Contained s p i s' p' i'
      → (phase s p i < phase s' p' i') ⊎ ((owner p i ≡ owner p' i') × (phase s p i ≡ phase s' p' i'))
  same-part s p i s' p' i' g g' h = go (in-part s p i g.some) (in-part s' p' i' g.some)
    where
      go : ((phase s p i ≡ 0) × Fused s p i (owner p i)) ⊎ ((phase s p i ≡ 1) × Peeled s p i (owner p i))
          → ((phase s' p' i' ≡ 0) × Fused s' p' i' (owner p' i')) ⊎ ((phase s' p' i' ≡ 1) × Peeled s' p' i' (owner p' i'))
          → (phase s p i < phase s' p' i') ⊎ ((owner p i ≡ owner p' i') × (phase s p i ≡ phase s' p' i'))
      go (inl (e, f)) (inr (d, k)) = inl (omega arith)
      go f (inl (d, k)) = let (a, b) = fused-one s p g i (owner p' i') inside in inr (a, b ∙ sym d)
        where
          inside : Fused s p i (owner p' i')
          inside = record {
            block = k.block;
            low = λ l. omega (arith, k.low l, h.down);
            high = λ l. omega (arith, k.high l, h.up);
          }
      go (inr (e, f)) (inr (d, k)) = inr (sym (peeled-one s' p' g' i' (owner p i) across).0, e ∙ sym d)
        where
          across : Peeled s' p' i' (owner p i)
          across = record { block = f.block; low = omega (arith, f.low, h.up); high = omega (arith, f.high, h.down) }
