-- Where the arrays begin, one after the other; and the statements in the rows, one after the other.
use Prim.Native.Nat.{ℕ, suc, ◌+◌, ◌-◌, ◌≤◌, ◌<◌}
use native.Mathlib.Omega.{arith}
use native.Mathlib.Decide.{ℕ_discrete}
use native.Mathlib.Numerals.{add-one}
use mathlib.Core.Path.{◌≡◌, refl, ◌∙◌}
use mathlib.Core.List.{List, [], ◌∷◌}
use mathlib.Core.List.Memᴰ.{head as mhere}
use mathlib.Core.List.Memᴰ.{tail as mthere}
use borrow.Author.Tests.{eq-eqb}
use lib.ListN.{length, get_or, set, length-set}
use lib.Seq.{get_or-set_same, get_or-set_other}
use lib.Ieee.{Float}
use borrow.Rule.Slice.PartMut.{mid_of, put_mid, mid_len, set_mid_at}
use Rattle.model.specs.Table.{Statement}
use Rattle.model.specs.Bodies.{begins, value, performed}
use Rattle.order.specs.Sequences.{run_all}
use Rattle.records.specs.declared.storage.Store.{Store}
use Rattle.reader.specs.Store.{kind_at, statement_at, body_from, statements_from}
use Rattle.grounds.specs.Statements.{sum}
use Rattle.bodies.specs.Workable.{Based}
use Rattle.bodies.specs.Stopped.{Opens, Stopped}
use Rattle.iterations.specs.LoadedLaws.{begins-next, begins-most}
use Rattle.iterations.specs.Runnable.{Performable, Runnable}

-- WHERE ARRAYS BEGIN
-- the entries up to k are filled, and the next array begins at `next`
pub record Filled (ns firsts : List ℕ) (next k : ℕ) : Type 0 where
  pub long : length firsts ≡ 17
  pub few : k ≤ 16
  pub next-is : next ≡ begins ns k
  pub filled : (a : ℕ) → a ≤ k → get_or firsts a 0 ≡ begins ns a

module _ (ns firsts : List ℕ) where
  module _ (next k : ℕ) (f : Filled ns firsts next k) (h : k < 16) (n : ℕ) (e : n ≡ get_or ns k 0) where
    pub filled-most : next + n ≤ sum ns
    filled-most = omega (arith, f.next-is, e, begins-next ns k, begins-most ns (suc k))

    pub filled_next : Filled ns (set firsts (k + 1) (next + n)) (next + n) (k + 1)
    filled_next = rw (add-one k) (record {
      long = length-set firsts (suc k) (next + n) ∙ f.long;
      few = h;
      next-is = is;
      filled = λ a l. at a l (ℕ_discrete a (suc k));
    })
      where
        is : next + n ≡ begins ns (suc k)
        is = omega (arith, f.next-is, e, begins-next ns k)

        at : (a : ℕ) → a ≤ suc k → Dec (a ≡ suc k) → get_or (set firsts (suc k) (next + n)) a 0 ≡ begins ns a
        at a l (yes z) = rw z (get_or-set_same firsts (suc k) (next + n) 0 (omega (arith, f.long)) ∙ is)
        at a l (no z) = get_or-set_other firsts (suc k) a (next + n) 0 z ∙ f.filled a (omega arith)

-- A STORE, in an array's own part of the memory
part-long : (m : List Float) (b at : ℕ) → b + at < length m → at < length (mid_of b (length m - b) m)
part-long m b at h = omega (arith, mid_len b (length m) m (omega arith))

pub part-stored : (m : List Float) (b at : ℕ) (x : Float) → b + at < length m
    → put_mid b (length m - b) m (set (mid_of b (length m - b) m) at x) ≡ set m (b + at) x
part-stored m b at x h = set_mid_at b (length m - b) at m x (part-long m b at h)

-- ONE STATEMENT, the value of its items stored at its destination
pub statement-stored : (bs : List ℕ) (i : ℕ) (s : Statement) (m after : List Float) (x : Float) → s.array < 16
    → ((ns : List ℕ) → Based bs ns → x ≡ value ns i s.items m) → after ≡ set m (get_or bs s.array 0 + (i + s.offset - 255)) x
    → (ns : List ℕ) → Based bs ns → after ≡ performed ns i s m
unfolding performed
statement-stored bs i s m after x few f g ns b = rw (g, b s.array (omega arith), f ns b)

-- THE STATEMENTS ONE BY ONE
-- in the rows from `row` on there are the statements left: they give, from what the memory now holds, what all give
module _ (cs : Store) (bs : List ℕ) (from past i : ℕ) (m₀ : List Float) where
  abbrev left : ℕ → List Statement
  left row = statements_from cs row (past - row)

  pub record RowsLeft (row : ℕ) (m : List Float) : Type 0 where
    pub opens : Opens cs row past
    pub long : length m ≡ length m₀
    pub able : Runnable bs i (length m₀) (left row)
    pub rest : (ns : List ℕ) → Based bs ns → run_all (performed ns i) (left row) m ≡ run_all (performed ns i) (left from) m₀

  pub rows_start : Opens cs from past → Runnable bs i (length m₀) (left from) → RowsLeft from m₀
  rows_start o a = record { opens = o; long = refl; able = a; rest = λ ns b. refl }

  module _ (row : ℕ) (m : List Float) (l : RowsLeft row m) where
    module _ (h : row < past) where
      abbrev st : Statement
      st = statement_at cs row (past - suc row) []

      opened : left row ≡ st ∷ statements_from cs (suc row) (past - suc row)
      unfolding body_from
      opened = let e : past - row ≡ suc (past - suc row) = omega arith in rw (e, eq-eqb (kind_at cs row) 1 (l.opens h))

      pub rows-able : Performable bs i (length m) st
      rows-able = rw l.long (l.able st (rw opened (mhere refl)))

      pub rows_next : (next : ℕ) → Stopped cs (suc row) past next → (n : List Float) → length n ≡ length m
          → ((ns : List ℕ) → Based bs ns → n ≡ performed ns i st m) → RowsLeft next n
      rows_next next s n k f = record {
        opens = s.opens;
        long = k ∙ l.long;
        able = λ z h. l.able z (rw (opened, s.same) (mthere h));
        rest = λ ns b. rw (f ns b, ← s.same) (rw opened at (l.rest ns b));
      }

    none : past ≤ row → left row ≡ []
    unfolding body_from
    none h = let e : past - row ≡ 0 = omega arith in rw e

    pub rows_end : past ≤ row → (ns : List ℕ) → Based bs ns → m ≡ run_all (performed ns i) (left from) m₀
    rows_end h ns b = rw (none h) at (l.rest ns b)

  -- the first of them
  module _ (o : Opens cs from past) (a : Runnable bs i (length m₀) (left from)) (h : from < past) where
    pub first-able : Performable bs i (length m₀) (statement_at cs from (past - suc from) [])
    first-able = rows-able from m₀ (rows_start o a) h

    pub first_next : (next : ℕ) → Stopped cs (suc from) past next → (n : List Float) → length n ≡ length m₀
        → ((ns : List ℕ) → Based bs ns → n ≡ performed ns i (statement_at cs from (past - suc from) []) m₀) → RowsLeft next n
    first_next = rows_next from m₀ (rows_start o a) h

-- what is left is a start
pub rows-again : (cs : Store) (bs : List ℕ) (from past i : ℕ) (m₀ : List Float) (row : ℕ) (m : List Float) → RowsLeft cs bs from past i m₀ row m
    → RowsLeft cs bs row past i m row m
rows-again cs bs from past i m₀ row m l = rows_start cs bs row past i m l.opens (rw l.long l.able)
