-- A place after records is in the input, or just past it; an end record has no body.
use Rattle.std.specs.Prelude.{ℕ, ◌+◌, ◌≤◌, ◌≡◌, refl, List, length}
use Rattle.std.proofs.Common.{arith, ◌∙◌}
use Rattle.records.specs.declared.Kind.{Kind}
use Rattle.records.specs.declared.Kind.TheVariants as kind
use Rattle.records.specs.declared.Record.{Record}
use Rattle.records.specs.declared.Record.TheVariants.{End}
use Rattle.records.specs.Bytes.{byte, kind_of, body_length, record_of, record_at}
use Rattle.records.specs.Clear.{span_of}
use Rattle.records.proofs.ClearLaws.{span-kind}
use Rattle.grounds.specs.Places.{Records, start, next}

pub records-within : (s : List ℕ) (p : ℕ) (rs : List Record) → Records s p rs → p ≤ length s
records-within s p rs start = omega arith
records-within s p rs (next h fits known more) = fits

-- an end record has no body
pub end-length : (s : List ℕ) (p : ℕ) → record_at s p ≡ End → body_length (byte s p) ≡ 0
unfolding record_at record_of
end-length s p e = span-kind (byte s p) ∙ go (kind_of (byte s p)) e
  where
    go : (k : Kind) → record_of k s (p + 1) ≡ End → span_of k ≡ 0
    go kind.Unknown e = refl
    go kind.Array e = let z : ◌≡◌ {A = ℕ} 0 1 = cc in omega arith
    go kind.Loop e = let z : ◌≡◌ {A = ℕ} 0 1 = cc in omega arith
    go kind.Read e = let z : ◌≡◌ {A = ℕ} 0 1 = cc in omega arith
    go kind.Constant e = let z : ◌≡◌ {A = ℕ} 0 1 = cc in omega arith
    go kind.Operation e = let z : ◌≡◌ {A = ℕ} 0 1 = cc in omega arith
    go kind.End e = refl
    go kind.Statement e = let z : ◌≡◌ {A = ℕ} 0 1 = cc in omega arith
