-- An accepted table is valid, and what follows from that.
use Rattle.std.specs.Prelude.{ℕ, suc, ◌+◌, ◌-◌, ◌≤◌, ◌<◌, ◌≡◌, refl, List, [], ◌∷◌, ◌++◌, length, get_or}
use Rattle.std.proofs.Common.{arith, sym, subst, ◌∙◌, ⊎_elim, length-append}
use Rattle.std.proofs.Math.Decide.{ℕ_discrete}
use mathlib.Core.List.Memᴰ
use mathlib.Core.List.Memᴰ.{head as mhere}
use mathlib.Core.List.Memᴰ.{tail as mthere}
use mathlib.Core.List.{Memᴰ as Mem}
use Rattle.std.proofs.Math.ListN.{get_or-append}
use Rattle.std.proofs.lemmas.List.{get_or_at}
use Rattle.records.specs.declared.Record.{Record}
use Rattle.records.specs.declared.Record.TheVariants as rec
use Rattle.records.specs.declared.Summary.{Summary}
use Rattle.records.specs.History.{summary, lengths, advanced, with_array, with_loop, with_item, with_statement}
use Rattle.records.specs.Clear.{Clear, Within}
use Rattle.model.specs.declared.Iteration.{Iteration}
use Rattle.model.specs.declared.Reference.{Reference}
use Rattle.model.specs.Table.{Item, read, constant, operation, Statement, Loop, Table, no_loop, count, loop, last, Inside}
use Rattle.model.specs.References.{destination, reads, references, refs}
use Rattle.refusals.specs.Answers.{accepted, refused}
use Rattle.reader.specs.Reading.{Answer, reading, loops_of, table_of}
use Rattle.reader.specs.Accepting.{loops-counted as read-counted}
use Rattle.grounds.specs.Statements.{loops, arrays}
use Rattle.grounds.proofs.Counted.{arrays-counted, elements-counted, loops-counted, Clears, loop-array, Few, few}
use Rattle.grounds.proofs.Trace.{Last, stop, tail, done, reading-ends}
use Rattle.grounds.specs.Accepted.{Works, item_total, ValidLoop, Valid}

module _ (t : Table) (v : Valid t) where
  pub valid-known : (k : ℕ) (r : Reference) → k < count t → Mem r (refs t k) → r.array < length t.lengths
  valid-known k r h m = (v.each k h).known r m

  pub valid-within : (x : Iteration) (r : Reference) → Inside t x → Mem r (refs t x.number)
      → (255 ≤ x.index + r.offset) × (x.index + r.offset - 255 < get_or t.lengths r.array 0)
  valid-within x r h m = (v.each x.number h.0).within r m x.index h.1 h.2

  -- a loop's iterations reach no further than an array that it stores to has elements
  module _ (k : ℕ) (h : k < count t) where
    reached : (r : Reference) → Mem r (refs t k) → last t k ≤ 65790
    reached r m =
        let l = v.each k h in
        let w = l.within r m (last t k) l.rising (omega arith) in
        omega (arith, w.1, w.0, (v.sizes r.array (l.known r m)).1)

    pub valid-last : last t k ≤ 65790
    valid-last = go (loop t k).body refl (v.each k h).some
      where
        go : (b : List Statement) → (loop t k).body ≡ b → 1 ≤ length b → last t k ≤ 65790
        go [] e l = absurd (omega arith)
        go (s ∷ b) e l = reached (destination k s) (rw e (mhere refl))

-- THE RECORDS OF AN ACCEPTED TABLE

-- one more at the end of a list
at-end : {A : Type 0} (P : ℕ → A → Type 0) (l : List A) (x d : A) → ((k : ℕ) → k < length l → P k (get_or l k d)) → P (length l) x
    → (k : ℕ) → k < length (l ++ (x ∷ [])) → P k (get_or (l ++ (x ∷ [])) k d)
at-end P l x d old new k h = go (ℕ_discrete k (length l))
  where
    go : Dec (k ≡ length l) → P k (get_or (l ++ (x ∷ [])) k d)
    go (yes e) = subst (λ (n : ℕ). P n (get_or (l ++ (x ∷ [])) n d)) (sym e) (rw (get_or_at l x [] d (length l) refl) new)
    go (no e) =
        let below : k < length l = omega (arith, length-append l (x ∷ [])) in
        rw (get_or-append l (x ∷ []) d k below) (old k below)

-- arrays
array-sizes : (rs : List Record) → Clears rs → (a : ℕ) → a < arrays rs → (1 ≤ get_or (lengths rs) a 0) × (get_or (lengths rs) a 0 ≤ 65536)
unfolding lengths
array-sizes [] c a h = absurd (omega arith)
array-sizes (rec.Unknown ∷ rs) c a h = absurd c.0
array-sizes (rec.Array n ∷ rs) c a h =
    at-end (λ (k m : ℕ). (1 ≤ m) × (m ≤ 65536)) (lengths rs) n 0 (array-sizes rs c.1) (omega (arith, c.0.2), omega (arith, c.0.3)) a h
array-sizes (rec.Loop f l q o ∷ rs) c a h = array-sizes rs c.1 a h
array-sizes (rec.Read q o ∷ rs) c a h = array-sizes rs c.1 a h
array-sizes (rec.Constant n ∷ rs) c a h = array-sizes rs c.1 a h
array-sizes (rec.Operation o ∷ rs) c a h = array-sizes rs c.1 a h
array-sizes (rec.End ∷ rs) c a h = array-sizes rs c.1 a h
array-sizes (rec.Statement q o ∷ rs) c a h = array-sizes rs c.1 a h

-- loops
abbrev statement_of : ℕ → ℕ → List Item → Statement
statement_of q o xs = record { array = q; offset = o; items = xs }

abbrev loop_of : ℕ → ℕ → ℕ → ℕ → List Item → List Statement → Loop
loop_of f l q o xs ss = record { first = f; last = l; body = statement_of q o xs ∷ ss }

loops-read : (rs : List Record) (xs : List Item) (ss : List Statement) → length (loops_of rs xs ss) ≡ loops rs
loops-read rs xs ss = read-counted rs xs ss ∙ loops-counted rs

-- a reference that iterations from f to l may make to arrays of the lengths ns
abbrev Reached : ℕ → ℕ → List ℕ → Reference → Type 0
Reached f l ns r = (r.array < length ns) × (r.offset ≤ 510) × Within f l r.offset (get_or ns r.array 0)

-- items and statements that may follow records with the summary t, up to the end of their loop
record Follow (t : Summary) (ns : List ℕ) (xs : List Item) (ss : List Statement) : Type 0 where
  works : Works xs t.waiting
  others : (s : Statement) → Mem s ss → Works s.items 0
  few-statements : t.statements + length ss ≤ 4
  few : t.items + length xs + item_total ss ≤ 32
  reach : (k : ℕ) (r : Reference) → Mem r (reads k xs) → Reached t.first t.last ns r
  beyond : (k : ℕ) (r : Reference) → Mem r (references k ss) → Reached t.first t.last ns r

-- nothing follows a body that leaves one number
ended : (t : Summary) (ns : List ℕ) → t.waiting ≡ 1 → Few t → Follow t ns [] []
ended t ns one f = record {
  works = one;
  others = λ s m. absurd (Memᴰ.not-nil m);
  few-statements = omega (arith, f.statements);
  few = omega (arith, f.items);
  reach = λ k r m. absurd (Memᴰ.not-nil m);
  beyond = λ k r m. absurd (Memᴰ.not-nil m);
}

-- a statement and those that follow it
module _ (f l : ℕ) (ns : List ℕ) (q o : ℕ) (xs : List Item) (ss : List Statement) where
  opened-reach : ((k : ℕ) → Reached f l ns (destination k (statement_of q o xs))) → ((k : ℕ) (r : Reference) → Mem r (reads k xs) → Reached f l ns r)
      → ((k : ℕ) (r : Reference) → Mem r (references k ss) → Reached f l ns r)
      → (k : ℕ) (r : Reference) → Mem r (references k (statement_of q o xs ∷ ss)) → Reached f l ns r
  opened-reach store reach beyond k r (mhere e) = subst (Reached f l ns) (sym e) (store k)
  opened-reach store reach beyond k r (mthere m) = ⊎_elim (reach k r) (beyond k r) (Memᴰ.append_cases (reads k xs) m)

  opened-works : Works xs 0 → ((s : Statement) → Mem s ss → Works s.items 0) → (s : Statement) → Mem s (statement_of q o xs ∷ ss) → Works s.items 0
  opened-works works others s (mhere e) = rw e works
  opened-works works others s (mthere m) = others s m

-- a loop whose items and statements may follow it
new-loop : (ns : List ℕ) (f l q o : ℕ) (xs : List Item) (ss : List Statement) → f ≤ l → l ≤ 131071
    → ((s : Statement) → Mem s (statement_of q o xs ∷ ss) → Works s.items 0) → suc (length ss) ≤ 4 → length xs + item_total ss ≤ 32
    → ((k : ℕ) (r : Reference) → Mem r (references k (statement_of q o xs ∷ ss)) → Reached f l ns r)
    → (k : ℕ) → ValidLoop ns k (loop_of f l q o xs ss)
new-loop ns f l q o xs ss up top works few-statements few reach k = record {
  rising = omega arith;
  bounded = omega arith;
  some = omega arith;
  few-statements = few-statements;
  few = few;
  works = works;
  known = λ r m. (reach k r m).0;
  near = λ r m. (reach k r m).1;
  within = λ r m i a b. let w = (reach k r m).2 in (omega arith, omega arith);
}

loops-valid : (rs : List Record) → Clears rs → (xs : List Item) (ss : List Statement) → Follow (summary rs) (lengths rs) xs ss
    → (k : ℕ) → k < length (loops_of rs xs ss) → ValidLoop (lengths rs) k (get_or (loops_of rs xs ss) k no_loop)
unfolding summary advanced with_array with_loop with_item with_statement lengths loops_of
loops-valid [] c xs ss fol k h = absurd (omega arith)
loops-valid (rec.Unknown ∷ rs) c xs ss fol k h = absurd c.0
loops-valid (rec.Array n ∷ rs) c xs ss fol k h = absurd (omega (arith, c.0.0, loops-counted rs, loops-read rs xs ss))
loops-valid (rec.Loop f l q o ∷ rs) c xs ss fol k h =
    at-end (ValidLoop (lengths rs)) (loops_of rs [] []) (loop_of f l q o xs ss) no_loop
    (loops-valid rs c.1 [] [] (ended (summary rs) (lengths rs) c.0.0 (few rs c.1)))
    (new-loop (lengths rs) f l q o xs ss c.0.3 c.0.2 (opened-works f l (lengths rs) q o xs ss fol.works fol.others)
    (omega (arith, fol.few-statements)) (omega (arith, fol.few))
    (opened-reach f l (lengths rs) q o xs ss (λ j. (omega (arith, c.0.4, arrays-counted rs), c.0.5, c.0.6)) fol.reach fol.beyond)
    (length (loops_of rs [] []))) k h
loops-valid (rec.Read q o ∷ rs) c xs ss fol k h = loops-valid rs c.1 (read q o ∷ xs) ss then k h
  where
    read-reach : (j : ℕ) (r : Reference) → Mem r (reads j (read q o ∷ xs)) → Reached (summary rs).first (summary rs).last (lengths rs) r
    read-reach j r (mhere e) =
        subst (Reached (summary rs).first (summary rs).last (lengths rs)) (sym e) (omega (arith, c.0.2, arrays-counted rs), c.0.3, c.0.5)
    read-reach j r (mthere m) = fol.reach j r m

    then : Follow (summary rs) (lengths rs) (read q o ∷ xs) ss
    then = record {
      works = (omega (arith, c.0.4), fol.works);
      others = fol.others;
      few-statements = fol.few-statements;
      few = omega (arith, fol.few);
      reach = read-reach;
      beyond = fol.beyond;
    }
loops-valid (rec.Constant n ∷ rs) c xs ss fol k h =
    loops-valid rs c.1 (constant n ∷ xs) ss
    (record {
      works = (omega (arith, c.0.2), fol.works);
      others = fol.others;
      few-statements = fol.few-statements;
      few = omega (arith, fol.few);
      reach = fol.reach;
      beyond = fol.beyond;
    }) k h
loops-valid (rec.Operation o ∷ rs) c xs ss fol k h =
    loops-valid rs c.1 (operation o ∷ xs) ss
    (record {
      works = (omega (arith, c.0.2), omega (arith, c.0.3), c.0.4, fol.works);
      others = fol.others;
      few-statements = fol.few-statements;
      few = omega (arith, fol.few);
      reach = fol.reach;
      beyond = fol.beyond;
    }) k h
loops-valid (rec.End ∷ rs) c xs ss fol k h = loops-valid rs c.1 xs ss fol k h
loops-valid (rec.Statement q o ∷ rs) c xs ss fol k h =
    loops-valid rs c.1 [] (statement_of q o xs ∷ ss)
    (record {
      works = c.0.1;
      others = opened-works 0 0 (lengths rs) q o xs ss fol.works fol.others;
      few-statements = omega (arith, fol.few-statements);
      few = omega (arith, fol.few);
      reach = λ j r m. absurd (Memᴰ.not-nil m);
      beyond =
          opened-reach (summary rs).first (summary rs).last (lengths rs) q o xs ss
          (λ j. (omega (arith, c.0.3, arrays-counted rs), c.0.4, c.0.5)) fol.reach fol.beyond;
    }) k h

-- THE THEOREM
pub valid-records : (rs : List Record) → Clears rs → Clear rec.End (summary rs) (lengths rs) → Valid (table_of rs)
valid-records rs c end =
    let some : 0 < loops rs = omega (arith, end.0, loops-counted rs) in
    let bounds = few rs c in
    record {
      some-arrays = loop-array rs c some;
      few-arrays = omega (arith, bounds.arrays, arrays-counted rs);
      sizes = array-sizes rs c;
      few-elements = omega (arith, bounds.elements, elements-counted rs);
      some-loops = omega (arith, loops-read rs [] []);
      few-loops = omega (arith, bounds.loops, loops-counted rs, loops-read rs [] []);
      each = loops-valid rs c [] [] (ended (summary rs) (lengths rs) end.1 bounds);
    }

abbrev ValidIn : Answer → Type 0
ValidIn (accepted t) = Valid t
ValidIn (refused r) = Unit {0}

pub accepted-valid : (s : List ℕ) (t : Table) → reading s ≡ accepted t → Valid t
accepted-valid s t e = let h = reading-ends s (accepted t) e in by h.place h.rs (accepted t) h.clears h.last
  where
    by : (p : ℕ) (rs : List Record) (a : Answer) → Clears rs → Last s p rs a → ValidIn a
    by p rs a c (stop f z) = tt
    by p rs a c (tail w l) = tt
    by p rs a c (done w l) = valid-records rs c w.clear
