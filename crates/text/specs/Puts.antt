-- What a writer puts into lent bytes: texts one after the other, where there is room and where there is none.
use Rattle.std.specs.Prelude.{◌≡◌, refl, List, [], ◌∷◌, ◌++◌, ℕ, ◌+◌, ◌≤◌, set}
use Rattle.std.proofs.Common.{arith, ◌∙◌}
use Rattle.text.specs.declared.Writer.{Writer}
use Rattle.text.specs.Lent.{Put}
use Rattle.text.specs.Written.{put_one, put-none, put_then, put-most}

-- a call that puts a text of at most `most` bytes makes a writer `old` a writer `new` on the same lent bytes
pub record Puts (old : Writer) (text : List ℕ) (most : ℕ) (new : Writer) : Type 0 where
  pub same_reference : new.out.ghost_name ≡ old.out.ghost_name
  pub put : Put old.out.now old.at text most new.out.now new.at

-- a byte; a text of none; one text after another
pub puts-one : {old new : Writer} (b : ℕ) → new.out.ghost_name ≡ old.out.ghost_name → new.out.now ≡ set old.out.now old.at b → new.at ≡ old.at + 1
    → Puts old (b ∷ []) 1 new
puts-one {old} {new} b e f g = record { same_reference = e; put = put_one old.out.now old.at b new.out.now new.at (f, g) }

pub puts-none : (w : Writer) → Puts w [] 0 w
puts-none w = record { same_reference = refl; put = put-none w.out.now w.at }

pub puts_then : {old mid new : Writer} {a b : List ℕ} {m n : ℕ} → Puts old a m mid → Puts mid b n new → Puts old (a ++ b) (m + n) new
puts_then p q = record { same_reference = q.same_reference ∙ p.same_reference; put = put_then p.put q.put }

pub puts-most : {old new : Writer} {text : List ℕ} {m : ℕ} (n : ℕ) → m ≤ n → Puts old text m new → Puts old text n new
puts-most n l p = record { same_reference = p.same_reference; put = put-most n l p.put }

-- how far the writer is
pub puts-past : {old new : Writer} {text : List ℕ} {m : ℕ} → Puts old text m new → new.at ≤ old.at + m
puts-past p = omega (arith, p.put.place, p.put.few)

-- a writer that was at the first byte of `out`
pub puts-first : {old new : Writer} {out text : List ℕ} {m : ℕ} → old.out.now ≡ out → old.at ≡ 0 → Puts old text m new → Put out 0 text m new.out.now new.at
puts-first {new = new} {text = text} {m} e f p = rw (e, f) at p.put
