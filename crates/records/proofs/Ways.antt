-- Laws of kinds, and of the ways that the tests of a record go.
use Rattle.std.specs.Prelude.{ℕ, zero, suc, ◌≤◌, ◌<◌, ◌+◌, ◌≡◌, refl, List, length, eqb, Bool, true, false, cond}
use Rattle.std.proofs.Common.{arith, ap, ◌∙◌}
use borrow.Author.Tests.{lt-ltb, le-ltb, le-leb, lt-leb, ne_eqb}
use Rattle.refusals.specs.declared.Ground.{Ground}
use Rattle.refusals.specs.declared.Ground.TheVariants as of
use Rattle.refusals.specs.Refusals.{met, number_of}
use Rattle.records.specs.declared.Kind.{Kind}
use Rattle.records.specs.declared.Kind.TheVariants.{Unknown}
use Rattle.records.specs.declared.Record.{Record}
use Rattle.records.specs.declared.Summary.{Summary}
use Rattle.records.specs.declared.Tested.TheVariants.{Refused}
use Rattle.records.specs.Bytes.{byte, kind_of, body_length, record_of, record_at}
use Rattle.records.specs.History.{operands}
use Rattle.records.specs.Grounds.{ground, early, fields, passed, tested}

-- no ground's number stands for none
pub ground_some : (g : Ground) → number_of g ≡ 0 → ⊥
ground_some of.Torn e = absurd (omega arith)
ground_some of.Kind e = absurd (omega arith)
ground_some of.Field e = absurd (omega arith)
ground_some of.Crowd e = absurd (omega arith)
ground_some of.Array e = absurd (omega arith)
ground_some of.Body e = absurd (omega arith)
ground_some of.Edge e = absurd (omega arith)
ground_some of.Tail e = absurd (omega arith)
ground_some of.Serial e = absurd (omega arith)
ground_some of.Processors e = absurd (omega arith)
ground_some of.Short e = absurd (omega arith)
ground_some of.Memory e = absurd (omega arith)
ground_some of.Buffer e = absurd (omega arith)
ground_some of.Unlike e = absurd (omega arith)
ground_some of.State e = absurd (omega arith)
ground_some of.Line e = absurd (omega arith)
ground_some of.Plan e = absurd (omega arith)
ground_some of.Unmet e = absurd (omega arith)

-- a byte that is no kind
pub no_kind : (b : ℕ) → (b ≡ 1 → ⊥) → (b ≡ 2 → ⊥) → (b ≡ 3 → ⊥) → (b ≡ 4 → ⊥) → (b ≡ 5 → ⊥) → (b ≡ 6 → ⊥) → (b ≡ 7 → ⊥) → Unknown ≡ kind_of b
unfolding kind_of
no_kind zero h₁ h₂ h₃ h₄ h₅ h₆ h₇ = refl
no_kind (suc zero) h₁ h₂ h₃ h₄ h₅ h₆ h₇ = absurd (h₁ refl)
no_kind (suc (suc zero)) h₁ h₂ h₃ h₄ h₅ h₆ h₇ = absurd (h₂ refl)
no_kind (suc (suc (suc zero))) h₁ h₂ h₃ h₄ h₅ h₆ h₇ = absurd (h₃ refl)
no_kind (suc (suc (suc (suc zero)))) h₁ h₂ h₃ h₄ h₅ h₆ h₇ = absurd (h₄ refl)
no_kind (suc (suc (suc (suc (suc zero))))) h₁ h₂ h₃ h₄ h₅ h₆ h₇ = absurd (h₅ refl)
no_kind (suc (suc (suc (suc (suc (suc zero)))))) h₁ h₂ h₃ h₄ h₅ h₆ h₇ = absurd (h₆ refl)
no_kind (suc (suc (suc (suc (suc (suc (suc zero))))))) h₁ h₂ h₃ h₄ h₅ h₆ h₇ = absurd (h₇ refl)
no_kind (suc (suc (suc (suc (suc (suc (suc (suc n)))))))) h₁ h₂ h₃ h₄ h₅ h₆ h₇ = refl

-- the ways that the tests of the record at a place go
module _ (s : List ℕ) (at : ℕ) (t : Summary) (ns : List ℕ) where
  refused : (g : ℕ) → ground s at t ns ≡ g → (g ≡ 0 → ⊥) → tested s at t ns ≡ Refused (met g at)
  unfolding tested
  refused g e n = simp (e, ne_eqb g 0 n)

  pub absent : length s ≤ at → tested s at t ns ≡ Refused (met 1 at)
  unfolding ground
  absent h = refused 1 (simp (le-leb _ _ h)) (λ e. omega arith)

  pub refused-early : (g : ℕ) → at < length s → early (kind_of (byte s at)) t ≡ g → (g ≡ 0 → ⊥) → tested s at t ns ≡ Refused (met g at)
  unfolding ground
  refused-early g h e n = refused g (simp (lt-leb _ _ h, e, ne_eqb g 0 n)) n

  pub torn : at < length s → early (kind_of (byte s at)) t ≡ 0 → length s < at + 1 + body_length (byte s at) → tested s at t ns ≡ Refused (met 1 at)
  unfolding ground
  torn h e l = refused 1 (simp (lt-leb _ _ h, e, lt-ltb _ _ l)) (λ e. omega arith)

  to_fields : at < length s → early (kind_of (byte s at)) t ≡ 0 → at + 1 + body_length (byte s at) ≤ length s
      → ground s at t ns ≡ fields (record_at s at) t ns
  unfolding ground
  to_fields h e l = simp (lt-leb _ _ h, e, le-ltb _ _ l)

  pub refused-fields : (g : ℕ) → at < length s → early (kind_of (byte s at)) t ≡ 0 → at + 1 + body_length (byte s at) ≤ length s
      → fields (record_at s at) t ns ≡ g → (g ≡ 0 → ⊥) → tested s at t ns ≡ Refused (met g at)
  refused-fields g h e l f n = refused g (rw (to_fields h e l) f) n

  pub clear : at < length s → early (kind_of (byte s at)) t ≡ 0 → at + 1 + body_length (byte s at) ≤ length s
      → fields (record_at s at) t ns ≡ 0 → tested s at t ns ≡ passed (record_at s at) (at + 1 + body_length (byte s at))
  unfolding tested
  clear h e l f = simp (to_fields h e l, f)

-- an operation takes at least one
pub operands-one : (o : ℕ) → 0 < operands o
unfolding operands
operands-one o = either (eqb o 5)
  where
    either : (b : Bool) → 0 < cond b 1 2
    either true = omega arith
    either false = omega arith

-- the record at a place, found by its kind byte
pub record-found : (s : List ℕ) (at b : ℕ) (k : Kind) (r : Record) → b ≡ byte s at → k ≡ kind_of b → r ≡ record_of k s (at + 1)
    → r ≡ record_at s at
unfolding record_at
record-found s at b k r e f g = g ∙ ap (λ (k : Kind). record_of k s (at + 1)) (f ∙ ap kind_of e)
