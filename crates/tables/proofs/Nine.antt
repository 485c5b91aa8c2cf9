-- Reading through 9: a refusal is given only where its ground holds, 9 carries the lowest loop that meets and names its least pair of references
-- that collides, and an accepted table meets none of 1 to 9.
use Prim.Native.Nat.{ℕ, zero, suc, ◌+◌, ◌≤◌, ◌<◌}
use Rattle.std.proofs.Common.{arith, ap, ◌∙◌, inl, inr}
use Rattle.std.proofs.Math.Decide.{ℕ_discrete, dec_lt}
use Rattle.std.specs.Prelude.{◌≡◌, ◌⊎◌, List}
use Rattle.std.proofs.Math.Path.{refl, sym, subst}
use Rattle.model.specs.Table.{Table, loop, count}
use Rattle.model.specs.Sound.{Sound}
use Rattle.refusals.specs.declared.Refusal.{Refusal}
use Rattle.refusals.specs.Refusals.{naming}
use Rattle.refusals.specs.Answers.{accepted, refused, refusal_of}
use Rattle.refusals.proofs.AnswerLaws.{not-both, after-refused}
use Rattle.reader.specs.Reading.{Answer, reading}
use Rattle.std.specs.Prelude.{None, Some}
use Rattle.serial.specs.Serial.{Collision, pair, loop_hit, after_loop, serial_from, through, table}
use Rattle.serial.specs.Meeting.{Serial, FirstMeeting}
use Rattle.serial.proofs.MeetingLaws.{hit-collides, lower-apart, nearer-apart, none-parallel, collides-serial}
use Rattle.serial.proofs.Parallel.{accepted-parallel}
use Rattle.grounds.proofs.StatementLaws.{ground-number}
use Rattle.grounds.proofs.Theorems.{refused-ground, refused-unnamed, accepted-none}
use Rattle.tables.specs.Told.{Told, ground, serial}
use Rattle.grounds.specs.Accepted.{Valid}
use Rattle.grounds.proofs.AcceptedLaws.{accepted-valid, valid-known, valid-within}

-- a walk over the loops that stops: a loop collides, and no earlier one from k on, of n, does
module _ (t : Table) where
  record Lowest (k n : ℕ) (r : Refusal) : Type 0 where
    number : ℕ
    lower : ℕ
    higher : ℕ
    is : r ≡ naming 9 number lower higher
    low : k ≤ number
    high : number < k + n
    hits : loop_hit (loop t number) ≡ pair lower higher
    earlier : (j : ℕ) → k ≤ j → j < number → loop_hit (loop t j) ≡ None

  lowest-from : (k n : ℕ) (r : Refusal) → serial_from t k n ≡ refused r → Lowest k n r
  unfolding serial_from
  lowest-from k zero r e = absurd (not-both (sym e))
  lowest-from k (suc n) r e = go (loop_hit (loop t k)) refl e (lowest-from (suc k) n r)
    where
      go : (x : Collision) → loop_hit (loop t k) ≡ x → after_loop k x (serial_from t (suc k) n) ≡ refused r
          → (serial_from t (suc k) n ≡ refused r → Lowest (suc k) n r) → Lowest k (suc n) r
      go None f g ih =
          let w = ih g in
          record {
            number = w.number;
            lower = w.lower;
            higher = w.higher;
            is = w.is;
            low = omega (arith, w.low);
            high = omega (arith, w.high);
            hits = w.hits;
            earlier = λ j l h. at j l (ℕ_discrete j k) (λ m. w.earlier j m h);
          }
        where
          at : (j : ℕ) → k ≤ j → Dec (j ≡ k) → (suc k ≤ j → loop_hit (loop t j) ≡ None) → loop_hit (loop t j) ≡ None
          at j l (yes q) later = rw q f
          at j l (no q) later = later (omega arith)
      go (Some (i, j)) f g ih = record {
        number = k;
        lower = i;
        higher = j;
        is = sym (ap refusal_of g);
        low = omega arith;
        high = omega arith;
        hits = f;
        earlier = λ j l h. absurd (omega arith);
      }

-- THE THEOREMS
module _ (s : List ℕ) where
  first-meeting : (t : Table) (r : Refusal) (w : Lowest t 0 (count t) r) → FirstMeeting t w.number w.lower w.higher
  first-meeting t r w =
      let p = w.number in
      let few : p < count t = omega (arith, w.high) in
      let c = hit-collides t p w.lower w.higher w.hits few in
      record {
        there = few;
        meets = collides-serial t p w.lower w.higher c;
        lowest-loop = λ k l. none-parallel t k (w.earlier k (omega arith) l);
        collides = c;
        least-lower = lower-apart t p w.lower w.higher w.hits;
        least-higher = nearer-apart t p w.lower w.higher w.hits;
      }

  -- a refusal is given only where its ground holds
  pub refused-told : (r : Refusal) → table s ≡ refused r → Told r s
  unfolding table through
  refused-told r e = go (after-refused (reading s) (λ t. serial_from t 0 (count t)) r e)
    where
      go : (reading s ≡ refused r) ⊎ ((t : Table) × (reading s ≡ accepted t) × (serial_from t 0 (count t) ≡ refused r)) → Told r s
      go (inl f) = subst (λ (q : Refusal). Told q s) (sym (refused-unnamed s r f)) (ground (refused-ground s r f))
      go (inr (t, f, g)) =
          let w = lowest-from t 0 (count t) r g in
          subst (λ (q : Refusal). Told q s) (sym w.is) (serial t f (first-meeting t r w))

  -- a ground that is told is not 0
  pub told-some : (r : Refusal) → Told r s → r.ground ≡ 0 → ⊥
  told-some r (ground {n} {p} g) z = omega (arith, z, ground-number s n p g)
  told-some r (serial t f m) z = omega (arith, z)

  -- an accepted table was read, and no two iterations of a loop meet
  pub accepted-read : (t : Table) → table s ≡ accepted t → (reading s ≡ accepted t) × ((k : ℕ) → k < count t → Serial t k → ⊥)
  accepted-read t e =
      let (f, none) = accepted-parallel s t e in
      (f, λ k l. none-parallel t k (none k l))

  -- so it keeps all limits
  pub valid : (t : Table) → table s ≡ accepted t → Valid t
  valid t e = accepted-valid s t (accepted-read t e).0

  -- and it meets none of 1 to 9
  pub accepted-free : (t : Table) → table s ≡ accepted t → (r : Refusal) → Told r s → ⊥
  accepted-free t e r (ground {n} {p} g) = accepted-none s t (accepted-read t e).0 n p g
  accepted-free t e r (serial {p} u f g) =
      let q : accepted u ≡ accepted t = sym f ∙ (accepted-read t e).0 in
      let z : u ≡ t = cc in
      (accepted-read t e).1 p (rw z at g.there) (rw z at g.meets)

  -- the loop and the pair of 9 are the only ones: where the bytes are read and two iterations meet, that is the answer
  pub nine-where : (t : Table) (p m n : ℕ) → reading s ≡ accepted t → FirstMeeting t p m n → table s ≡ refused (naming 9 p m n)
  nine-where t p m n f w = go (table s) refl
    where
      same-loop : (q i j : ℕ) → FirstMeeting t q i j → Dec (p < q) → Dec (q < p) → p ≡ q
      same-loop q i j v (yes l) d = absurd (v.lowest-loop p l w.meets)
      same-loop q i j v (no l) (yes d) = absurd (w.lowest-loop q d v.meets)
      same-loop q i j v (no l) (no d) = omega arith

      same-lower : (i j : ℕ) → FirstMeeting t p i j → Dec (m < i) → Dec (i < m) → m ≡ i
      same-lower i j v (yes l) d = absurd (v.least-lower m n l w.collides)
      same-lower i j v (no l) (yes d) = absurd (w.least-lower i j d v.collides)
      same-lower i j v (no l) (no d) = omega arith

      same-higher : (j : ℕ) → FirstMeeting t p m j → Dec (n < j) → Dec (j < n) → n ≡ j
      same-higher j v (yes l) d = absurd (v.least-higher n l w.collides)
      same-higher j v (no l) (yes d) = absurd (w.least-higher j d v.collides)
      same-higher j v (no l) (no d) = omega arith

      same : (r : Refusal) → Told r s → r ≡ naming 9 p m n
      same r (ground {n = k} {p = q} g) = absurd (accepted-none s t f k q g)
      same r (serial {p = q} {m = i} {n = j} u h v) =
          let z : accepted u ≡ accepted t = sym h ∙ f in
          let y : u ≡ t = cc in
          let x : FirstMeeting t q i j = subst (λ (x : Table). FirstMeeting x q i j) y v in
          let a : p ≡ q = same-loop q i j x (dec_lt p q) (dec_lt q p) in
          let b : m ≡ i = same-lower i j (subst (λ (k : ℕ). FirstMeeting t k i j) (sym a) x) (dec_lt m i) (dec_lt i m) in
          let c : n ≡ j =
          same-higher j (subst (λ (k : ℕ). FirstMeeting t p k j) (sym b) (subst (λ (k : ℕ). FirstMeeting t k i j) (sym a) x)) (dec_lt n j) (dec_lt j n) in
          rw (a, b, c)

      go : (a : Answer) → table s ≡ a → table s ≡ refused (naming 9 p m n)
      go (accepted u) e = absurd (accepted-free u e (naming 9 p m n) (serial t f w))
      go (refused r) e = e ∙ ap refused (same r (refused-told r e))

  pub accepted-sound : (t : Table) → table s ≡ accepted t → Sound t
  accepted-sound t e =
      let (r, parallel) = accepted-read t e in
      let v = accepted-valid s t r in
      record {
        known = valid-known t v;
        within = valid-within t v;
        parallel = λ k i j x y m n d p q h.
            parallel k m.0
            (record { one = i; other = j; one_inside = m; other-inside = n; differ = d; left = x; right = y; left_in = p; right-in = q; meet = h });
      }
