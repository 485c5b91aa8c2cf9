-- Laws of the test of ground 9: it decides the statement; the pair that it names collides, and no lesser pair does.
use Prim.Native.Nat.{ℕ, zero, suc, ◌+◌, ◌<◌}
use Rattle.std.proofs.Common.{arith, ap, subst, ◌∙◌, inl, inr, ⊎_elim}
use Rattle.std.proofs.Math.Decide.{dec_lt}
use Rattle.std.specs.Prelude.{◌≡◌, ◌≢◌, Bool, not, get_or, eqb}
use Rattle.std.proofs.Math.Path.{refl, sym}
use Rattle.std.proofs.Math.Bool.{true, false}
use Rattle.std.proofs.lemmas.Bool.{false≢true}
use mathlib.Core.List.{List, [], ◌∷◌, ◌++◌, append-nil}
use mathlib.Core.List.Memᴰ.{head as mhere}
use mathlib.Core.List.Memᴰ.{tail as mthere}
use mathlib.Core.List.{Memᴰ as Mem}
use Rattle.std.proofs.Math.ListN.{length}
use borrow.Author.Tests.{eqb-false, not-true, ne_eqb}
use Rattle.overlap.specs.Booleans.{both_true}
use Rattle.overlap.proofs.OverlapLaws.{Meeting, overlap-is, is-overlap}
use Rattle.order.specs.Lists.{nth-mem}
use Rattle.model.specs.declared.Reference.{Reference}
use Rattle.model.specs.Table.{Item, read, constant, operation, Statement, Table, loop, count, first, last, iteration, Inside}
use Rattle.model.specs.References.{destination, reads, references, refs, touch, Touch, Meet}
use Rattle.chains.proofs.DependenceLaws.{touch_is}
use Rattle.std.specs.Prelude.{None, Some}
use Rattle.serial.specs.Serial.{Collision, pair, collides, pick, hit, or_else, pair_hit, loop_hit}
use Rattle.serial.specs.Meeting.{Serial, numbered, Collides}

-- THE TEST OF A PAIR
module _ (f l : ℕ) (r q : Reference) where
  -- what a collision is
  abbrev Colliding : Type 0
  Colliding = Touch r q × (r.offset ≢ q.offset) × Meeting f l r.offset f l q.offset

  collides-apart : collides f l r q ≡ true → Colliding
  unfolding collides
  collides-apart e =
      let (p, u) = both_true (touch r q) _ e in
      let (v, w) = both_true (not (eqb r.offset q.offset)) _ u in
      ((touch_is r q).0 p, eqb-false _ _ (not-true (eqb r.offset q.offset) v), overlap-is f l r.offset f l q.offset w)

  apart-collides : Colliding → collides f l r q ≡ true
  unfolding collides
  apart-collides (t, n, m) = rw ((touch_is r q).1 t, ne_eqb r.offset q.offset n) (is-overlap f l r.offset f l q.offset m)

-- THE FIRST PAIR, by the places of the references
module _ (f l : ℕ) (d : Reference) where
  -- the reference r and the one at place j of qs don't collide
  abbrev Apart : Reference → List Reference → ℕ → Type 0
  Apart r qs j = collides f l r (get_or qs j d) ≡ false

  -- what is known where the test of r with qs, which are numbered from m on, names a and b
  record Hit (n : ℕ) (r : Reference) (qs : List Reference) (m a b : ℕ) : Type 0 where
    own : a ≡ n
    place : ℕ
    named : b ≡ m + place
    inside : place < length qs
    collide : collides f l r (get_or qs place d) ≡ true
    earlier : (j : ℕ) → j < place → Apart r qs j

  pair_parts : (n m a b : ℕ) → pair n m ≡ pair a b → (n ≡ a) × (m ≡ b)
  pair_parts n m a b e =
      let p : ◌≡◌ {A = ℕ × ℕ} (n, m) (a, b) = cc in
      (ap (λ (x : ℕ × ℕ). x.0) p, ap (λ (x : ℕ × ℕ). x.1) p)

  no-pair : {A : Type 0} (n m : ℕ) → None ≡ pair n m → A
  no-pair n m e = absurd cc

  hit-found : (n : ℕ) (r : Reference) (qs : List Reference) (m a b : ℕ) → hit f l n r qs m ≡ pair a b → Hit n r qs m a b
  unfolding hit
  hit-found n r [] m a b e = no-pair a b e
  hit-found n r (q ∷ qs) m a b e = go (collides f l r q) refl e (hit-found n r qs (m + 1) a b)
    where
      go : (x : Bool) → collides f l r q ≡ x → pick x (pair n m) (hit f l n r qs (m + 1)) ≡ pair a b
          → (hit f l n r qs (m + 1) ≡ pair a b → Hit n r qs (m + 1) a b) → Hit n r (q ∷ qs) m a b
      go true g h ih =
          let (x, y) = pair_parts n m a b h in
          record { own = sym x; place = 0; named = omega arith; inside = omega arith; collide = g; earlier = λ j k. absurd (omega arith) }
      go false g h ih = let w = ih h in
          record {
            own = w.own;
            place = suc w.place;
            named = omega (arith, w.named);
            inside = omega (arith, w.inside);
            collide = w.collide;
            earlier = λ j. before j w.earlier;
          }
        where
          before : (j : ℕ) {p : ℕ} → ((i : ℕ) → i < p → Apart r qs i) → j < suc p → Apart r (q ∷ qs) j
          before zero k z = g
          before (suc j) k z = k j (omega arith)

  hit-none : (n : ℕ) (r : Reference) (qs : List Reference) (m : ℕ) → hit f l n r qs m ≡ None → (j : ℕ) → j < length qs → Apart r qs j
  unfolding hit
  hit-none n r [] m e j h = absurd (omega arith)
  hit-none n r (q ∷ qs) m e j h = go (collides f l r q) refl e j h (hit-none n r qs (m + 1))
    where
      go : (x : Bool) → collides f l r q ≡ x → pick x (pair n m) (hit f l n r qs (m + 1)) ≡ None → (i : ℕ) → i < length (q ∷ qs)
          → (hit f l n r qs (m + 1) ≡ None → (i : ℕ) → i < length qs → Apart r qs i) → Apart r (q ∷ qs) i
      go true g e i k ih = no-pair n m (sym e)
      go false g e zero k ih = g
      go false g e (suc i) k ih = ih e i (omega arith)

  -- the references at the places i and j of rs don't collide
  abbrev ApartIn : List Reference → ℕ → ℕ → Type 0
  ApartIn rs i j = collides f l (get_or rs i d) (get_or rs j d) ≡ false

  -- what is known where the test of all pairs names a and b
  record Pairs (rs : List Reference) (n a b : ℕ) : Type 0 where
    low : ℕ
    high : ℕ
    low-is : a ≡ n + low
    high_is : b ≡ n + high
    order : low < high
    inside : high < length rs
    collide : collides f l (get_or rs low d) (get_or rs high d) ≡ true
    lower : (i j : ℕ) → i < low → i < j → j < length rs → ApartIn rs i j
    nearer : (j : ℕ) → low < j → j < high → ApartIn rs low j

  pair_found : (rs : List Reference) (n a b : ℕ) → pair_hit f l rs n ≡ pair a b → Pairs rs n a b
  unfolding pair_hit
  pair_found [] n a b e = no-pair a b e
  pair_found (r ∷ qs) n a b e = go (hit f l n r qs (n + 1)) refl e (pair_found qs (n + 1) a b)
    where
      go : (x : Collision) → hit f l n r qs (n + 1) ≡ x → or_else x (pair_hit f l qs (n + 1)) ≡ pair a b
          → (pair_hit f l qs (n + 1) ≡ pair a b → Pairs qs (n + 1) a b) → Pairs (r ∷ qs) n a b
      go None g h ih = let w = ih h in
          record {
            low = suc w.low;
            high = suc w.high;
            low-is = omega (arith, w.low-is);
            high_is = omega (arith, w.high_is);
            order = omega (arith, w.order);
            inside = omega (arith, w.inside);
            collide = w.collide;
            lower = λ i j. below i j w.lower;
            nearer = λ j. between j w.nearer;
          }
        where
          below : (i j : ℕ) {p : ℕ} → ((i j : ℕ) → i < p → i < j → j < length qs → ApartIn qs i j)
              → i < suc p → i < j → j < length (r ∷ qs) → ApartIn (r ∷ qs) i j
          below i zero k u v z = absurd (omega arith)
          below zero (suc j) k u v z = hit-none n r qs (n + 1) g j (omega arith)
          below (suc i) (suc j) k u v z = k i j (omega arith) (omega arith) (omega arith)

          between : (j : ℕ) {p q : ℕ} → ((j : ℕ) → p < j → j < q → ApartIn qs p j) → suc p < j → j < suc q → ApartIn (r ∷ qs) (suc p) j
          between zero k u v = absurd (omega arith)
          between (suc j) k u v = k j (omega arith) (omega arith)
      go (Some (x, y)) g h ih =
          let w = hit-found n r qs (n + 1) x y g in
          let (u, v) = pair_parts x y a b h in
          record {
            low = 0;
            high = suc w.place;
            low-is = omega (arith, w.own);
            high_is = omega (arith, w.named);
            order = omega arith;
            inside = omega (arith, w.inside);
            collide = w.collide;
            lower = λ i j k. absurd (omega arith);
            nearer = λ j. first j w.earlier;
          }
        where
          first : (j : ℕ) {p : ℕ} → ((i : ℕ) → i < p → Apart r qs i) → 0 < j → j < suc p → ApartIn (r ∷ qs) 0 j
          first zero k u v = absurd (omega arith)
          first (suc j) k u v = k j (omega arith)

  pair-none : (rs : List Reference) (n : ℕ) → pair_hit f l rs n ≡ None → (i j : ℕ) → i < j → j < length rs → ApartIn rs i j
  unfolding pair_hit
  pair-none [] n e i j u v = absurd (omega arith)
  pair-none (r ∷ qs) n e i j u v = go (hit f l n r qs (n + 1)) refl e i j u v (pair-none qs (n + 1))
    where
      go : (x : Collision) → hit f l n r qs (n + 1) ≡ x → or_else x (pair_hit f l qs (n + 1)) ≡ None → (i j : ℕ) → i < j → j < length (r ∷ qs)
          → (pair_hit f l qs (n + 1) ≡ None → (i j : ℕ) → i < j → j < length qs → ApartIn qs i j) → ApartIn (r ∷ qs) i j
      go None g h i zero u v ih = absurd (omega arith)
      go None g h zero (suc j) u v ih = hit-none n r qs (n + 1) g j (omega arith)
      go None g h (suc i) (suc j) u v ih = ih h i j (omega arith) (omega arith)
      go (Some (x, y)) g h i j u v ih = no-pair x y (sym h)

-- THE LOOP'S OWN NUMBER IS NO MATTER
abbrev Like : Reference → Reference → Type 0
Like r q = (r.array ≡ q.array) × (r.offset ≡ q.offset) × (r.stores ≡ q.stores)

abbrev Alike : List Reference → List Reference → Type 0
Alike [] [] = Unit {0}
Alike [] (q ∷ qs) = ⊥
Alike (r ∷ rs) [] = ⊥
Alike (r ∷ rs) (q ∷ qs) = Like r q × Alike rs qs

module _ (f l : ℕ) where
  like-collides : (r q x y : Reference) → Like r x → Like q y → collides f l r q ≡ collides f l x y
  unfolding collides touch
  like-collides r q x y a b = rw (a.0, a.1, a.2, b.0, b.1, b.2)

  alike-hit : (n : ℕ) (r x : Reference) (qs ys : List Reference) (m : ℕ) → Like r x → Alike qs ys → hit f l n r qs m ≡ hit f l n x ys m
  unfolding hit
  alike-hit n r x [] [] m a b = refl
  alike-hit n r x [] (y ∷ ys) m a b = absurd b
  alike-hit n r x (q ∷ qs) [] m a b = absurd b
  alike-hit n r x (q ∷ qs) (y ∷ ys) m a b = rw (like-collides r q x y a b.0, alike-hit n r x qs ys (m + 1) a b.1)

  alike-pairs : (rs xs : List Reference) (n : ℕ) → Alike rs xs → pair_hit f l rs n ≡ pair_hit f l xs n
  unfolding pair_hit
  alike-pairs [] [] n a = refl
  alike-pairs [] (x ∷ xs) n a = absurd a
  alike-pairs (r ∷ rs) [] n a = absurd a
  alike-pairs (r ∷ rs) (x ∷ xs) n a = rw (alike-hit n r x rs xs (n + 1) a.0 a.1, alike-pairs rs xs (n + 1) a.1)

module _ (j k : ℕ) where
  alike-reads : (xs : List Item) (rs qs : List Reference) → Alike rs qs → Alike (reads j xs ++ rs) (reads k xs ++ qs)
  alike-reads [] rs qs a = a
  alike-reads (read b o ∷ xs) rs qs a = ((refl, refl, refl), alike-reads xs rs qs a)
  alike-reads (constant n ∷ xs) rs qs a = alike-reads xs rs qs a
  alike-reads (operation n ∷ xs) rs qs a = alike-reads xs rs qs a

  alike-references : (b : List Statement) → Alike (references j b) (references k b)
  alike-references [] = tt
  alike-references (s ∷ b) = ((refl, refl, refl), alike-reads s.items (references j b) (references k b) (alike-references b))

-- THE TEST DECIDES
module _ (t : Table) (k : ℕ) where
  loop-pairs : loop_hit (loop t k) ≡ pair_hit (first t k) (last t k) (refs t k) 0
  unfolding loop_hit
  loop-pairs = alike-pairs (first t k) (last t k) (references 0 (loop t k).body) (refs t k) 0 (alike-references 0 k (loop t k).body)

  abbrev none : Reference
  none = record { number = k; array = 0; offset = 0; stores = false }

  -- the two iterations in which two references meet are found by the test, and the other way round
  meet-collides : (r q : Reference) (i j : ℕ) → Inside t (iteration k i) → Inside t (iteration k j) → i ≢ j → Meet i j r q
      → collides (first t k) (last t k) r q ≡ true
  meet-collides r q i j a b n m =
      apart-collides (first t k) (last t k) r q (m.0, (λ z. n (omega (arith, m.1))), (i, j, a.1, a.2, b.1, b.2, m.1))

  collides-meet : (m n : ℕ) → k < count t → m < n → n < length (refs t k)
      → collides (first t k) (last t k) (numbered t k m) (numbered t k n) ≡ true → Collides t k m n
  collides-meet m n here low in_row e =
      let (touch, other, (i, j, a, b, c, d, at)) = collides-apart (first t k) (last t k) (numbered t k m) (numbered t k n) e in
      record {
        lower = low;
        there = in_row;
        one = i;
        other = j;
        one_inside = (here, a, b);
        other-inside = (here, c, d);
        differ = λ z. other (omega arith);
        meet = (touch, at);
      }

  apart_none : (m n : ℕ) → collides (first t k) (last t k) (numbered t k m) (numbered t k n) ≡ false → Collides t k m n → ⊥
  apart_none m n e c =
      false≢true (sym e ∙ meet-collides (numbered t k m) (numbered t k n) c.one c.other c.one_inside c.other-inside c.differ c.meet)

  module _ (m n : ℕ) (e : loop_hit (loop t k) ≡ pair m n) where
    found : Pairs (first t k) (last t k) none (refs t k) 0 m n
    found = pair_found (first t k) (last t k) none (refs t k) 0 m n (sym loop-pairs ∙ e)

    low-found : found.low ≡ m
    low-found = omega (arith, found.low-is)

    high-found : found.high ≡ n
    high-found = omega (arith, found.high_is)

    -- the pair that it names collides
    pub hit-collides : k < count t → Collides t k m n
    hit-collides here =
        let c = collides-meet found.low found.high here found.order found.inside found.collide in
        subst (λ (i : ℕ). Collides t k i n) low-found (subst (Collides t k found.low) high-found c)

    -- no pair with a lower number does, and with its lower number none with a lower other one
    pub lower-apart : (i j : ℕ) → i < m → Collides t k i j → ⊥
    lower-apart i j h c = apart_none i j (found.lower i j (omega (arith, low-found)) c.lower c.there) c

    pub nearer-apart : (j : ℕ) → j < n → Collides t k m j → ⊥
    nearer-apart j h c =
        apart_none m j
        (subst (λ (i : ℕ). collides (first t k) (last t k) (numbered t k i) (numbered t k j) ≡ false) low-found
        (found.nearer j (omega (arith, low-found, c.lower)) (omega (arith, high-found)))) c

  -- a reference of the loop has a number
  at_place : {x : Reference} (rs : List Reference) → Mem x rs → (n : ℕ) × (n < length rs) × (get_or rs n none ≡ x)
  at_place [] x'' = elim x'' [ ]
  at_place (y ∷ rs) (mhere e) = (0, omega arith, sym e)
  at_place (y ∷ rs) (mthere h) = let (n, l, e) = at_place rs h in (suc n, omega arith, e)

  -- where the test finds nothing, no two iterations meet
  pub none-parallel : loop_hit (loop t k) ≡ None → Serial t k → ⊥
  none-parallel e x =
      let (i, l, p) = at_place (refs t k) x.left_in in
      let (j, m, q) = at_place (refs t k) x.right-in in
      go i j l m p q (dec_lt i j) (dec_lt j i)
    where
      apart : (i j : ℕ) → i < j → j < length (refs t k) → collides (first t k) (last t k) (numbered t k i) (numbered t k j) ≡ false
      apart = pair-none (first t k) (last t k) none (refs t k) 0 (sym loop-pairs ∙ e)

      go : (i j : ℕ) → i < length (refs t k) → j < length (refs t k) → numbered t k i ≡ x.left → numbered t k j ≡ x.right
          → Dec (i < j) → Dec (j < i) → ⊥
      go i j l m p q (yes a) b =
          false≢true (sym (rw (p, q) at (apart i j a m))
          ∙ meet-collides x.left x.right x.one x.other x.one_inside x.other-inside x.differ x.meet)
      go i j l m p q (no a) (yes b) =
          false≢true (sym (rw (q, p) at (apart j i b l))
          ∙ meet-collides x.right x.left x.other x.one x.other-inside x.one_inside (λ z. x.differ (sym z))
          ((sym x.meet.0.0, ⊎_elim inr inl x.meet.0.1), sym x.meet.1))
      go i j l m p q (no a) (no b) =
          let same : i ≡ j = omega arith in
          let one : x.left ≡ x.right = sym p ∙ ap (numbered t k) same ∙ q in
          x.differ (omega (arith, x.meet.1, ap (λ (r : Reference). r.offset) one))

  -- a pair that collides makes two iterations meet
  pub collides-serial : (m n : ℕ) → Collides t k m n → Serial t k
  collides-serial m n c = record {
    one = c.one;
    other = c.other;
    one_inside = c.one_inside;
    other-inside = c.other-inside;
    differ = c.differ;
    left = numbered t k m;
    right = numbered t k n;
    left_in = nth-mem (refs t k) none m (omega (arith, c.lower, c.there));
    right-in = nth-mem (refs t k) none n c.there;
    meet = c.meet;
  }

-- IN A LOOP OF ONE STATEMENT the lower reference of a pair that collides is the destination, 0; the reads behind it are numbered from 1
read-reads : (k : ℕ) (d : Reference) (xs : List Item) (n : ℕ) → n < length (reads k xs) → (get_or (reads k xs) n d).stores ≡ false
read-reads k d [] n h = absurd (omega arith)
read-reads k d (read a o ∷ xs) zero h = refl
read-reads k d (read a o ∷ xs) (suc n) h = read-reads k d xs n (omega arith)
read-reads k d (constant c ∷ xs) n h = read-reads k d xs n h
read-reads k d (operation c ∷ xs) n h = read-reads k d xs n h

module _ (t : Table) (k : ℕ) (s : Statement) (only : (loop t k).body ≡ s ∷ []) where
  own : refs t k ≡ destination k s ∷ reads k s.items
  own = rw only (ap (λ (l : List Reference). destination k s ∷ l) (append-nil (reads k s.items)))

  pub one-numbered : (r : ℕ) → numbered t k (suc r) ≡ get_or (reads k s.items) r (none t k)
  one-numbered r = ap (λ (l : List Reference). get_or l (suc r) (none t k)) own

  later-reads : (n : ℕ) → suc n < length (refs t k) → (numbered t k (suc n)).stores ≡ false
  later-reads n h =
      ap (λ (r : Reference). r.stores) (one-numbered n) ∙ read-reads k (none t k) s.items n (omega (arith, ap length own))

  pub one-statement : (m n : ℕ) → Collides t k m n → m ≡ 0
  one-statement zero n c = refl
  one-statement (suc m) zero c = absurd (omega (arith, c.lower))
  one-statement (suc m) (suc n) c =
      ⊎_elim (λ e. absurd (false≢true (sym (later-reads m (omega (arith, c.lower, c.there))) ∙ e)))
      (λ e. absurd (false≢true (sym (later-reads n c.there) ∙ e))) c.meet.0.1
