-- The three ways that the tests of the record at a place end, and what each says.
use Rattle.std.specs.Prelude.{ℕ, zero, suc, ◌+◌, ◌≤◌, ◌<◌, Bool, List, get_or, eqb}
use Rattle.std.proofs.Common.{arith, subst, ltb-false, leb-false, eqb-true}
use Rattle.std.proofs.Math.Path.{◌≡◌, refl, ap}
use Rattle.std.proofs.Math.Bool.{true, false}
use Rattle.std.proofs.Math.ListN.{length}
use Rattle.std.proofs.Math.Dec.{leb, ltb, eqb-suc-zero}
use Rattle.std.proofs.lemmas.Bool.{eqb-false}
use Rattle.refusals.specs.declared.Refusal.{Refusal}
use Rattle.refusals.specs.Refusals.{met}
use Rattle.records.specs.declared.Record.{Record}
use Rattle.records.specs.declared.Record.TheVariants.{Unknown, Array, Loop, Read, Constant, Operation, End, Statement}
use Rattle.records.specs.declared.Summary.{Summary}
use Rattle.records.specs.declared.Tested.{Tested}
use Rattle.records.specs.declared.Tested.TheVariants.{Refused, Passed, Ended}
use Rattle.records.specs.Bytes.{byte, kind_of, body_length, record_at}
use Rattle.records.specs.Grounds.{◌if◌else◌, or_else, early, edge, fields, ground, passed, pick, tested}
use Rattle.records.specs.Clear.{Clear}
use Rattle.records.proofs.ClearLaws.{clear_of}

-- a whole record that meets no ground
pub record Whole (s : List ℕ) (at : ℕ) (t : Summary) (ns : List ℕ) (r : Record) (n : ℕ) : Type 0 where
  pub there : at < length s
  pub is : record_at s at ≡ r
  pub next : n ≡ at + 1 + body_length (byte s at)
  pub fits : n ≤ length s
  pub clear : Clear r t ns

module _ (s : List ℕ) (at : ℕ) (t : Summary) (ns : List ℕ) where
  -- the parts of the tests that found no ground
  pub record Free : Type 0 where
    pub there : at < length s
    pub early : early (kind_of (byte s at)) t ≡ 0
    pub fits : at + 1 + body_length (byte s at) ≤ length s
    pub fields : fields (record_at s at) t ns ≡ 0

  pub ground-free : ground s at t ns ≡ 0 → Free
  unfolding ground
  ground-free e = go (leb (length s) at) refl e
    where
      torn : (b : Bool) → ltb (length s) (at + 1 + body_length (byte s at)) ≡ b → (1 if b else fields (record_at s at) t ns) ≡ 0
          → (at + 1 + body_length (byte s at) ≤ length s) × (fields (record_at s at) t ns ≡ 0)
      torn true f h = absurd (omega (arith, h))
      torn false f h = (ltb-false _ _ f, h)

      kinds : (g : ℕ) → early (kind_of (byte s at)) t ≡ g → at < length s
          → or_else g (1 if ltb (length s) (at + 1 + body_length (byte s at)) else fields (record_at s at) t ns) ≡ 0 → Free
      kinds zero f l h = let (a, b) = torn (ltb (length s) (at + 1 + body_length (byte s at))) refl h in record { there = l; early = f; fits = a; fields = b }
      kinds (suc g) f l h = absurd (omega (arith, simp eqb-suc-zero at h))

      go : (b : Bool) → leb (length s) at ≡ b
          → (1 if b else or_else (early (kind_of (byte s at)) t) (1 if ltb (length s) (at + 1 + body_length (byte s at)) else fields (record_at s at) t ns)) ≡ 0
          → Free
      go true f h = absurd (omega (arith, h))
      go false f h = kinds (early (kind_of (byte s at)) t) refl (leb-false _ _ f) h

  clear-free : Free → Clear (record_at s at) t ns
  unfolding record_at
  clear-free f = clear_of (kind_of (byte s at)) s (at + 1) t ns f.early f.fields

  -- which outcome it is goes by the ground
  abbrev Outcome : Tested → Type 0
  Outcome (Refused r) = (r ≡ met (ground s at t ns) at) × (r.ground ≡ 0 → ⊥)
  Outcome (Passed r n) = Whole s at t ns r n × (r ≡ End → ⊥)
  Outcome (Ended n) = Whole s at t ns End n

  whole : Free → (r : Record) → record_at s at ≡ r → Whole s at t ns r (at + 1 + body_length (byte s at))
  whole f r e = record {
    there = f.there;
    is = e;
    next = refl;
    fits = f.fits;
    clear = subst (λ (x : Record). Clear x t ns) e (clear-free f);
  }

  pub outcome : Outcome (tested s at t ns)
  unfolding tested passed
  outcome = go (eqb (ground s at t ns) 0) refl
    where
      by : Free → (r : Record) → record_at s at ≡ r → Outcome (passed r (at + 1 + body_length (byte s at)))
      by f Unknown e = absurd (whole f Unknown e).clear
      by f (Array n) e = (whole f (Array n) e, λ h. let z : ◌≡◌ {A = ℕ} 0 1 = cc in omega arith)
      by f (Loop a b d o) e = (whole f (Loop a b d o) e, λ h. let z : ◌≡◌ {A = ℕ} 0 1 = cc in omega arith)
      by f (Read d o) e = (whole f (Read d o) e, λ h. let z : ◌≡◌ {A = ℕ} 0 1 = cc in omega arith)
      by f (Constant n) e = (whole f (Constant n) e, λ h. let z : ◌≡◌ {A = ℕ} 0 1 = cc in omega arith)
      by f (Operation o) e = (whole f (Operation o) e, λ h. let z : ◌≡◌ {A = ℕ} 0 1 = cc in omega arith)
      by f End e = whole f End e
      by f (Statement d o) e = (whole f (Statement d o) e, λ h. let z : ◌≡◌ {A = ℕ} 0 1 = cc in omega arith)

      go : (b : Bool) → eqb (ground s at t ns) 0 ≡ b
          → Outcome (pick b (passed (record_at s at) (at + 1 + body_length (byte s at))) (Refused (met (ground s at t ns) at)))
      go true e = by (ground-free (eqb-true _ _ e)) (record_at s at) refl
      go false e = (refl, eqb-false _ _ e)

  -- the three outcomes, from what the tests answered
  pub refused-ground : (r : Refusal) → tested s at t ns ≡ Refused r → (r ≡ met (ground s at t ns) at) × (r.ground ≡ 0 → ⊥)
  refused-ground r e = subst Outcome e outcome

  pub passed-whole : (r : Record) (n : ℕ) → tested s at t ns ≡ Passed r n → Whole s at t ns r n × (r ≡ End → ⊥)
  passed-whole r n e = subst Outcome e outcome

  pub ended-whole : (n : ℕ) → tested s at t ns ≡ Ended n → Whole s at t ns End n
  ended-whole n e = subst Outcome e outcome

-- the tests look only at the lengths of arrays that there are
module _ (t : Summary) (ns ms : List ℕ) (same : (q : ℕ) → q < t.arrays → get_or ns q 0 ≡ get_or ms q 0) where
  at-array : (q : ℕ) (test : ℕ → ℕ) → (5 if leb t.arrays q else test (get_or ns q 0)) ≡ (5 if leb t.arrays q else test (get_or ms q 0))
  at-array q test = go (leb t.arrays q) refl
    where
      go : (b : Bool) → leb t.arrays q ≡ b → (5 if b else test (get_or ns q 0)) ≡ (5 if b else test (get_or ms q 0))
      go true e = refl
      go false e = ap test (same q (leb-false _ _ e))

  fields-same : (r : Record) → fields r t ns ≡ fields r t ms
  unfolding fields
  fields-same Unknown = refl
  fields-same (Array n) = refl
  fields-same (Loop f l q o) =
      ap (λ (g : ℕ). 3 if ltb 131071 l else 3 if ltb l f else g) (at-array q (λ n. 3 if ltb 510 o else edge f l o n))
  fields-same (Read q o) = at-array q (λ n. 3 if ltb 510 o else 6 if leb 8 t.waiting else edge t.first t.last o n)
  fields-same (Constant n) = refl
  fields-same (Operation o) = refl
  fields-same End = refl
  fields-same (Statement q o) = at-array q (λ n. 3 if ltb 510 o else edge t.first t.last o n)

  pub tested-same : (s : List ℕ) (at : ℕ) → tested s at t ns ≡ tested s at t ms
  unfolding tested ground
  tested-same s at = rw (fields-same (record_at s at))
