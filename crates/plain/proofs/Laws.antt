-- The iterations of a loop one after the other, the loops one after the other, and what is told of the run.
use Prim.Native.Nat.{ℕ, suc, ◌+◌, ◌-◌, ◌^◌, ◌≤◌, ◌<◌}
use native.Mathlib.Omega.{arith}
use native.Mathlib.Numerals.{add-one}
use mathlib.Core.Path.{◌≡◌, refl, sym, ap, ◌∙◌}
use mathlib.Core.List.{List}
use lib.ListN.{length, get_or}
use lib.Ieee.{Float}
use Rattle.std.specs.Prelude.{Result, Ok, Err}
use Rattle.order.specs.Sequences.{run_all}
use Rattle.model.specs.Table.{Statement, Table, count, iteration, Inside}
use Rattle.model.specs.Bodies.{performed}
use Rattle.model.specs.PlainRun.{upward, looped, plain_run}
use Rattle.model.specs.PlainRunLaws.{upward-turn, upward-ended}
use Rattle.refusals.specs.declared.Refusal.{Refusal}
use Rattle.refusals.specs.Refusals.{met}
use Rattle.refusals.specs.Answers.{AnswerOf, accepted, refused, result_of}
use Rattle.records.specs.declared.storage.Store.{Store}
use Rattle.reader.specs.Store.{first_at, last_at, start_at, loops_in, statements_from, table_in}
use Rattle.reader.specs.Held.{Held, count_held, loop-held, first-held, last-held}
use Rattle.serial.specs.Serial.{table}
use Rattle.grounds.specs.Accepted.{Valid}
use Rattle.bodies.specs.Workable.{Based}
use Rattle.bodies.specs.Stopped.{Opens}
use Rattle.iterations.specs.Memory.{element_total, remembered}
use Rattle.iterations.specs.MemoryLaws.{remembered-as-long, remembered-unlike, looped-length}
use Rattle.iterations.specs.LoadedLaws.{based-total}
use Rattle.iterations.specs.Runnable.{Runnable}
use Rattle.iterations.specs.RunnableLaws.{loaded-rows, loaded-runnable}
use Rattle.plain.specs.Plain.{plain_answer, run_of, plain_memory}
use Rattle.plain.specs.Running.{Running}

-- A WALK, of whichever x it is: the turns from i on give, from what the memory now holds, what all turns give; none changes the memory's length
module _ {X : Type 0} (g : X → ℕ → List Float → List Float) (from past : ℕ) (m₀ : List Float) where
  pub record Left (i : ℕ) (m : List Float) : Type 0 where
    pub low : from ≤ i
    pub long : length m ≡ length m₀
    pub rest : (x : X) → upward (g x) i (past - i) m ≡ upward (g x) from (past - from) m₀

  module _ (i : ℕ) (m : List Float) (l : Left i m) where
    left-next : i < past → (n : List Float) → length n ≡ length m → ((x : X) → n ≡ g x i m) → Left (i + 1) n
    left-next h n keeps e =
        rw (add-one i)
        (record { low = omega (arith, l.low); long = keeps ∙ l.long; rest = λ x. upward-turn (g x) i past m _ (l.rest x) h n (e x) })

    left_end : past ≤ i → (x : X) → m ≡ upward (g x) from (past - from) m₀
    left_end h x = upward-ended (g x) i past m _ (l.rest x) h

-- THE ITERATIONS first TO last OF THE STATEMENTS IN ROWS, whatever the arrays' lengths, if they begin at bs
module _ (cs : Store) (bs : List ℕ) (from past first last : ℕ) (m₀ : List Float) where
  abbrev statements : List Statement
  statements = statements_from cs from (past - from)

  abbrev turn : (ns : List ℕ) × Based bs ns → ℕ → List Float → List Float
  turn x i = run_all (performed x.0 i) statements

  abbrev pub RangeLeft : ℕ → List Float → Type 0
  RangeLeft = Left turn first (suc last) m₀

  module _ (i : ℕ) (m : List Float) (l : RangeLeft i m) where
    module _ (h : i ≤ last) where
      pub range-asks : ((j : ℕ) → first ≤ j → j ≤ last → Runnable bs j (length m₀) statements) → Runnable bs i (length m) statements
      range-asks a = rw l.long (a i l.low h)

      pub range-next : (n : List Float) → length n ≡ length m → ((ns : List ℕ) → Based bs ns → n ≡ run_all (performed ns i) statements m)
          → RangeLeft (i + 1) n
      range-next n keeps e = left-next turn first (suc last) m₀ i m l (omega arith) n keeps (λ x. e x.0 x.1)

    pub range-end : last < i → (ns : List ℕ) → Based bs ns
        → m ≡ upward (λ j. run_all (performed ns j) statements) first (suc last - first) m₀
    range-end h ns b = left_end turn first (suc last) m₀ i m l h (ns, b)

-- ONE LOOP of a table in a store
module _ (cs : Store) (bs : List ℕ) (m : List Float) (k : ℕ) (r : Running cs bs m) (there : k < count (table_in cs)) where
  within : (i : ℕ) → first_at cs k ≤ i → i ≤ last_at cs k → Inside (table_in cs) (iteration k i)
  within i a b =
      (there, omega (arith, first-held r.loaded.holds k there), omega (arith, last-held r.loaded.holds k there))

  rising : first_at cs k ≤ last_at cs k
  rising =
      omega (arith, first-held r.loaded.holds k there, last-held r.loaded.holds k there, (r.loaded.valid.each k there).rising)

  abbrev body : List Statement
  body = statements_from cs (start_at cs k) (start_at cs (suc k) - start_at cs k)

  pub loop-asks : ((start_at cs (suc k) ≤ 576) × (last_at cs k < 2 ^ 32) × Opens cs (start_at cs k) (start_at cs (suc k)))
      × ((i : ℕ) → first_at cs k ≤ i → i ≤ last_at cs k → Runnable bs i (length m) body)
  loop-asks = (
    loaded-rows r.loaded k (last_at cs k) (within (last_at cs k) rising (omega arith)),
    λ i a b. loaded-runnable r.loaded k i (within i a b) (length m) r.long,
  )

  pub loop-run : (n : List Float)
      → ((ns : List ℕ) → Based bs ns → n ≡ upward (λ i. run_all (performed ns i) body) (first_at cs k) (suc (last_at cs k) - first_at cs k) m)
      → n ≡ looped (table_in cs) k m
  loop-run n f =
      let h = r.loaded.holds in
      rw (first-held h k there, last-held h k there, loop-held h k there) (f (table_in cs).lengths r.loaded.based)

-- THE LOOPS, n of them, from the memory m₀
module _ (cs : Store) (bs : List ℕ) (m₀ : List Float) (n : ℕ) where
  abbrev t : Table
  t = table_in cs

  abbrev pub LoopsLeft : ℕ → List Float → Type 0
  LoopsLeft = Left (λ (x : Unit {0}). looped t) 0 n m₀

  module _ (r : Running cs bs m₀) (counted : n ≡ loops_in cs) (k : ℕ) (m : List Float) (l : LoopsLeft k m) where
    pub loops-asks : k < n → Running cs bs m × (k < count t)
    loops-asks h = (record { loaded = r.loaded; long = l.long ∙ r.long }, omega (arith, count_held r.loaded.holds))

    pub loops-next : k < n → (after : List Float) → after ≡ looped t k m → LoopsLeft (k + 1) after
    loops-next h after e =
        left-next (λ (x : Unit {0}). looped t) 0 n m₀ k m l h after (ap length e ∙ looped-length t k m) (λ x. e)

    pub loops-end : n ≤ k → m ≡ plain_run t m₀
    loops-end h =
        let z : n - 0 ≡ count t = omega (arith, count_held r.loaded.holds) in
        left_end (λ (x : Unit {0}). looped t) 0 n m₀ k m l h tt ∙ ap (λ (j : ℕ). upward (looped t) 0 j m₀) z

-- A TABLE IN A STORE, ON A MEMORY
module _ (c : Store) (h : Held c × Valid (table_in c)) (bs : List ℕ) (b : Based bs (table_in c).lengths) (m : List Float) where
  abbrev answer : AnswerOf Table
  answer = remembered element_total (length m) (accepted (table_in c))

  abbrev Answered : Result (Unit {0}) Refusal → List Float → Type 0
  Answered r n = (r ≡ result_of {U = Unit {0}} (λ _. tt) answer) × (n ≡ run_of answer m)

  held-total : get_or bs 16 0 ≡ element_total (table_in c)
  held-total = based-total bs (table_in c).lengths 16 b h.1.few-arrays (omega arith)

  pub held-unlike : (length m ≡ get_or bs 16 0 → ⊥) → Answered (Err (met 12 0)) m
  unfolding run_of
  held-unlike e = let z = remembered-unlike element_total (length m) (table_in c) (λ q. e (q ∙ sym held-total)) in rw z (refl, refl)

  module _ (e : length m ≡ get_or bs 16 0) where
    pub held_asks : Running c bs m
    held_asks = record { loaded = record { holds = h.0; valid = h.1; based = b }; long = e ∙ held-total }

    pub held-run : (n : List Float) → n ≡ plain_run (table_in c) m → Answered (Ok tt) n
    unfolding run_of
    held-run n f = let z = remembered-as-long element_total (length m) (table_in c) (e ∙ held-total) in rw z (refl, f)

-- WHAT IS ANSWERED: 12 is asked of an accepted table alone
module _ (s : List ℕ) (m : List Float) where
  pub run-refused : (r : Refusal) → table s ≡ refused r → (Err r ≡ result_of {U = Unit {0}} (λ _. tt) (plain_answer s (length m))) × (m ≡ plain_memory s m)
  unfolding plain_answer plain_memory remembered run_of
  run-refused r e = rw e (refl, refl)

  pub run-accepted : (t : Table) → table s ≡ accepted t → (x : Result (Unit {0}) Refusal) (n : List Float)
      → x ≡ result_of {U = Unit {0}} (λ _. tt) (remembered element_total (length m) (accepted t)) → n ≡ run_of (remembered element_total (length m) (accepted t)) m
      → (x ≡ result_of {U = Unit {0}} (λ _. tt) (plain_answer s (length m))) × (n ≡ plain_memory s m)
  unfolding plain_answer plain_memory
  run-accepted t e x n f g = rw e (f, g)
