-- A ground that holds is one of 1 to 8, by its number, and its place is in the input or just past it.
use Rattle.std.specs.Prelude.{ℕ, zero, suc, ◌≤◌, ◌<◌, List, [], ◌∷◌, length, get_or}
use Rattle.std.proofs.Common.{arith, ⊎_elim}
use Rattle.grounds.specs.PlaceLaws.{records-within}
use Rattle.grounds.specs.Statements.{Torn, BadKind, BadField, Crowd, NoArray, BadBody, Edge, Tail, statements, Ground}

listed : (l : List (Type 0)) (n : ℕ) → get_or l n ⊥ → n < length l
listed [] n g = absurd g
listed (A ∷ l) zero g = omega arith
listed (A ∷ l) (suc n) g = omega (arith, listed l n g)

pub ground-number : (s : List ℕ) (n p : ℕ) → Ground n s p → (1 ≤ n) × (n ≤ 8)
ground-number s zero p g = absurd g
ground-number s (suc n) p g = (omega arith, omega (arith, listed (statements s p) (suc n) g))

-- what follows from each of the statements
pub record Cases (s : List ℕ) (p : ℕ) (B : Type 0) : Type 0 where
  pub torn : Torn s p → B
  pub kind : BadKind s p → B
  pub field : BadField s p → B
  pub crowd : Crowd s p → B
  pub array : NoArray s p → B
  pub body : BadBody s p → B
  pub edge : Edge s p → B
  pub tail : Tail s p → B

pub by_number : (s : List ℕ) (p : ℕ) (B : Type 0) → Cases s p B → (n : ℕ) → Ground n s p → B
by_number s p B c zero g = absurd g
by_number s p B c (suc zero) g = c.torn g
by_number s p B c (suc (suc zero)) g = c.kind g
by_number s p B c (suc (suc (suc zero))) g = c.field g
by_number s p B c (suc (suc (suc (suc zero)))) g = c.crowd g
by_number s p B c (suc (suc (suc (suc (suc zero))))) g = c.array g
by_number s p B c (suc (suc (suc (suc (suc (suc zero)))))) g = c.body g
by_number s p B c (suc (suc (suc (suc (suc (suc (suc zero))))))) g = c.edge g
by_number s p B c (suc (suc (suc (suc (suc (suc (suc (suc zero)))))))) g = c.tail g
by_number s p B c (suc (suc (suc (suc (suc (suc (suc (suc (suc n))))))))) g = absurd g

-- a place is in the input, or just past it
pub ground-place : (s : List ℕ) (n p : ℕ) → Ground n s p → p ≤ length s
ground-place s n p g =
    by_number s p (p ≤ length s) (record {
      torn = λ h. records-within s p h.0 h.1;
      kind = λ h. records-within s p h.0 h.1;
      field = λ h. records-within s p h.0 h.1;
      crowd = ⊎_elim (λ h. records-within s p h.0 h.1) (λ h. records-within s p h.0 h.1);
      array = λ h. records-within s p h.0 h.1;
      body = ⊎_elim (λ h. records-within s p h.0 h.1) (λ h. records-within s p h.0 h.1);
      edge = λ h. records-within s p h.0 h.1;
      tail = λ h. omega (arith, h.6);
    }) n g
