-- Two iterations commute if they share no element, or only read what they share. Assumes nothing.
use Rattle.std.specs.Prelude.{◌≡◌, ◌⊎◌, ◌≢◌, true, ℕ, zero, suc, ◌+◌, ◌-◌, ◌≤◌, ◌<◌, set, pos, Float}
use Rattle.std.proofs.Math.Path.{refl, ap}
use Rattle.std.proofs.Common.{sym, inl, inr, arith, get_or-set_other}
use mathlib.Core.List.Memᴰ
use mathlib.Core.List.{List, [], ◌∷◌}
use mathlib.Core.List.Memᴰ.{head as mhere}
use mathlib.Core.List.Memᴰ.{tail as mthere}
use mathlib.Core.List.{Memᴰ as Mem}
use Rattle.std.proofs.Math.Decide.{dec_lt}
use Rattle.std.proofs.Math.ListN.{get_or}
use Rattle.std.proofs.lemmas.List.{set_comm}
use Rattle.std.specs.Float.Ieee.{nan, binary64, of_int}
use Rattle.order.specs.Sequences.{run_all}
use Rattle.order.specs.Reorder.{run_all-past, Commute}
use Rattle.model.specs.declared.Iteration.{Iteration}
use Rattle.model.specs.declared.Reference.{Reference}
use Rattle.model.specs.Table.{Item, read, constant, operation, Statement, Table, loop, Inside}
use Rattle.model.specs.References.{destination, reads, references, refs, Meet}
use Rattle.model.specs.Bodies.{begins, place, applied, worked, worked_all, value, performed, run}
use Rattle.model.specs.Sound.{Sound}

-- DIFFERENT ARRAYS share no element
begins-past : (ns : List ℕ) (a b : ℕ) → a < b → begins ns a + get_or ns a 0 ≤ begins ns b
begins-past [] a b l = omega arith
begins-past (n ∷ ns) zero zero l = absurd (omega arith)
begins-past (n ∷ ns) zero (suc b) l = omega arith
begins-past (n ∷ ns) (suc a) zero l = absurd (omega arith)
begins-past (n ∷ ns) (suc a) (suc b) l = omega (arith, begins-past ns a b (omega arith))

pub place-one : (ns : List ℕ) (a b u v : ℕ) → u < get_or ns a 0 → v < get_or ns b 0 → begins ns a + u ≡ begins ns b + v → (a ≡ b) × (u ≡ v)
place-one ns a b u v p q e = go (dec_lt a b) (dec_lt b a)
  where
    go : Dec (a < b) → Dec (b < a) → (a ≡ b) × (u ≡ v)
    go (yes l) m = absurd (omega (arith, begins-past ns a b l))
    go (no l) (yes m) = absurd (omega (arith, begins-past ns b a m))
    go (no l) (no m) = let s : a ≡ b = omega arith in (s, omega (arith, ap (begins ns) s))

-- the references of one statement of loop k
abbrev statement_refs : ℕ → Statement → List Reference
statement_refs k s = destination k s ∷ reads k s.items

statement-mem : {s : Statement} {r : Reference} {b : List Statement} (k : ℕ) → Mem s b → Mem r (statement_refs k s) → Mem r (references k b)
statement-mem k (mhere {xs = b} e) h = Memᴰ.append_left (references k b) (rw e at h)
statement-mem k (mthere {x = z} m) h = Memᴰ.append_right (statement_refs k z) (statement-mem k m h)

-- STATEMENTS
module _ (ns : List ℕ) where
  -- the element of a reference in iteration i, in the memory
  abbrev pub element : ℕ → Reference → ℕ
  element i r = place ns r.array r.offset i

  -- a body's value depends on the elements that it reads
  worked-set : (k i p : ℕ) (m : List Float) (v : Float) (xs : List Item) (w : List Float)
      → ((r : Reference) → Mem r (reads k xs) → element i r ≢ p) → worked_all ns i (set m p v) xs w ≡ worked_all ns i m xs w
  unfolding worked worked_all
  worked-set k i p m v [] w h = refl
  worked-set k i p m v (read a o ∷ xs) w h =
      rw (get_or-set_other m p (place ns a o i) v nan (h _ (mhere refl)))
      (worked-set k i p m v xs (get_or m (place ns a o i) nan ∷ w) (λ r j. h r (mthere j)))
  worked-set k i p m v (constant n ∷ xs) w h = worked-set k i p m v xs (of_int binary64 (pos n) ∷ w) h
  worked-set k i p m v (operation n ∷ xs) w h = worked-set k i p m v xs (applied n w) h

  value_set : (k i p : ℕ) (m : List Float) (v : Float) (xs : List Item)
      → ((r : Reference) → Mem r (reads k xs) → element i r ≢ p) → value ns i xs (set m p v) ≡ value ns i xs m
  unfolding value
  value_set k i p m v xs h = ap (λ (w : List Float). get_or w 0 nan) (worked-set k i p m v xs [] h)

  -- no element is stored by one and referred to by the other
  abbrev Free : ℕ → ℕ → Statement → ℕ → ℕ → Statement → Type 0
  Free k i s l j z =
      (r q : Reference) → Mem r (statement_refs k s) → Mem q (statement_refs l z) → (r.stores ≡ true) ⊎ (q.stores ≡ true) → element i r ≢ element j q

  performed-commute : (k i : ℕ) (s : Statement) (l j : ℕ) (z : Statement) → Free k i s l j z → (m : List Float)
      → performed ns i s (performed ns j z m) ≡ performed ns j z (performed ns i s m)
  unfolding performed
  performed-commute k i s l j z free m =
      rw (
        value_set k i (element j (destination l z)) m (value ns j z.items m) s.items
            (λ r h. free r (destination l z) (mthere h) (mhere refl) (inr refl)),
        value_set l j (element i (destination k s)) m (value ns i s.items m) z.items
            (λ q h e. free (destination k s) q (mhere refl) (mthere h) (inl refl) (sym e)),
      )
      (set_comm m (element j (destination l z)) (element i (destination k s)) _ _
      (λ e. free (destination k s) (destination l z) (mhere refl) (mhere refl) (inl refl) (sym e)))

  -- LISTS OF STATEMENTS: what one stores, the other neither reads nor stores
  abbrev pub Apart : ℕ → ℕ → List Statement → ℕ → ℕ → List Statement → Type 0
  Apart k i b l j d =
      (r q : Reference) → Mem r (references k b) → Mem q (references l d) → (r.stores ≡ true) ⊎ (q.stores ≡ true) → element i r ≢ element j q

  -- so they commute
  pub bodies-commute : (k i : ℕ) (b : List Statement) (l j : ℕ) (d : List Statement) → Apart k i b l j d → (m : List Float)
      → run_all (performed ns i) b (run_all (performed ns j) d m) ≡ run_all (performed ns j) d (run_all (performed ns i) b m)
  bodies-commute k i b l j d apart m = sym (run_all-past (performed ns i) (run_all (performed ns j) d) b outer m)
    where
      free : (s z : Statement) → Mem s b → Mem z d → Free k i s l j z
      free s z g h r q u v = apart r q (statement-mem k g u) (statement-mem l h v)

      outer : (s : Statement) → Mem s b → (m : List Float)
          → run_all (performed ns j) d (performed ns i s m) ≡ performed ns i s (run_all (performed ns j) d m)
      outer s g m = sym (run_all-past (performed ns j) (performed ns i s) d (λ z h. performed-commute k i s l j z (free s z g h)) m)

-- ITERATIONS: two of them share an element, and one of them stores there
abbrev pub Clash : Table → Iteration → Iteration → Type 0
Clash t x y =
    (r : Reference) × (q : Reference) × Mem r (refs t x.number) × Mem q (refs t y.number) × Meet x.index y.index r q

module _ (t : Table) (sound : Sound t) where
  open sound use {within}
  open t use {lengths}

  pub clash : (x y : Iteration) (r q : Reference) → Inside t x → Inside t y → Mem r (refs t x.number) → Mem q (refs t y.number)
      → (r.stores ≡ true) ⊎ (q.stores ≡ true) → element lengths x.index r ≡ element lengths y.index q → Clash t x y
  clash x y r q m n g h s e =
      let (a, b) = within x r m g in
      let (d, f) = within y q n h in
      let (p, u) = place-one lengths r.array q.array (x.index + r.offset - 255) (y.index + q.offset - 255) (omega arith) (omega arith) e in
      (r, q, g, h, ((p, s), omega arith))

  pub commutes : (x y : Iteration) → Inside t x → Inside t y → (Clash t x y → ⊥) → Commute (run t) x y
  commutes x y m n free =
      bodies-commute lengths x.number x.index (loop t x.number).body y.number y.index (loop t y.number).body
      (λ r q g h o e. free (clash x y r q m n g h o e))
