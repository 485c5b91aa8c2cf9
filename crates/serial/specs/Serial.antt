-- Ground 9: two different iterations of one loop meet at an element, one of them storing. The test, and reading through it.
use Rattle.std.specs.Prelude.{ℕ, zero, suc, ◌+◌, Bool, true, false, not, ◌&&◌, List, [], ◌∷◌, Option, None, Some, eqb}
use Rattle.overlap.specs.Overlap.{overlap}
use Rattle.model.specs.declared.Reference.{Reference}
use Rattle.model.specs.Table.{Loop, Table, loop, count}
use Rattle.model.specs.References.{references, touch}
use Rattle.refusals.specs.Refusals.{naming}
use Rattle.refusals.specs.Answers.{accepted, refused, after}
use Rattle.reader.specs.Reading.{Answer, reading}

-- two references of a loop from f to l meet in different iterations: they are to one array, one of them storing, their offsets differ, and
-- iterations in which they are at one element both lie in the loop's bounds
unfoldable pub collides : (f l : ℕ) → Reference → Reference → Bool
unfolding overlap touch
collides f l r q = touch r q && (not (eqb r.offset q.offset) && overlap f l r.offset f l q.offset)

-- two references of a loop that collide, by their numbers, the lower one first; or none
abbrev pub Collision : Type 0
Collision = Option (ℕ × ℕ)

abbrev pub pair : ℕ → ℕ → Collision
pair n m = Some (n, m)

abbrev pub pick : Bool → Collision → Collision → Collision
pick true x y = x
pick false x y = y

-- the reference r, of the number n, with the first of qs that it collides with; these are numbered from m on
unfoldable pub hit : (f l n : ℕ) → Reference → List Reference → ℕ → Collision
hit f l n r [] m = None
hit f l n r (q ∷ qs) m = pick (collides f l r q) (pair n m) (hit f l n r qs (m + 1))

abbrev pub or_else : Collision → Collision → Collision
or_else None y = y
or_else (Some (n, m)) y = Some (n, m)

-- the first pair that collides, by the lower number and then by the higher one; the references are numbered from n on
unfoldable pub pair_hit : (f l : ℕ) → List Reference → ℕ → Collision
pair_hit f l [] n = None
pair_hit f l (r ∷ qs) n = or_else (hit f l n r qs (n + 1)) (pair_hit f l qs (n + 1))

-- of a loop: all its references, destinations too, are numbered from 0. (The loop's own number is no matter here.)
unfoldable pub loop_hit : Loop → Collision
loop_hit l = pair_hit l.first l.last (references 0 l.body) 0

-- the loops from loop k on: 9 carries the lowest that collides, and names its first pair that does
abbrev pub after_loop : ℕ → Collision → Answer → Answer
after_loop k None more = more
after_loop k (Some (n, m)) more = refused (naming 9 k n m)

unfoldable pub serial_from : Table → ℕ → ℕ → Answer
serial_from t k zero = accepted t
serial_from t k (suc n) = after_loop k (loop_hit (loop t k)) (serial_from t (suc k) n)

-- a table, read through 9
unfoldable pub through : Answer → Answer
through a = after a (λ t. serial_from t 0 (count t))

unfoldable pub table : List ℕ → Answer
table s = through (reading s)
