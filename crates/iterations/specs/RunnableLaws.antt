-- The statements of a loop, in an iteration that its table has, can be run.
use Rattle.std.specs.Prelude.{ℕ, suc, ◌+◌, ◌-◌, ◌^◌, ◌≤◌, ◌<◌, ◌≡◌, refl, false, List, [], ◌∷◌, get_or}
use Rattle.std.proofs.Common.{arith, sym, ap, subst}
use mathlib.Core.List.Memᴰ
use mathlib.Core.List.Memᴰ.{head as mhere}
use mathlib.Core.List.Memᴰ.{not-nil}
use mathlib.Core.List.Memᴰ.{tail as mthere}
use mathlib.Core.List.{Memᴰ as Mem}
use Rattle.model.specs.declared.Reference.{Reference}
use Rattle.model.specs.Table.{Item, read, constant, operation, Statement, Loop, Table, loop, iteration, Inside}
use Rattle.model.specs.References.{destination, reads, references, refs}
use Rattle.model.specs.Bodies.{begins}
use Rattle.records.specs.declared.storage.Store.{Store}
use Rattle.reader.specs.Store.{start_at, statements_from}
use Rattle.reader.specs.Held.{loop-held, few-rows, opening-held}
use Rattle.grounds.specs.Statements.{sum}
use Rattle.grounds.specs.Accepted.{Works}
use Rattle.grounds.proofs.AcceptedLaws.{valid-last}
use Rattle.bodies.specs.Workable.{Element, ReadsWithin}
use Rattle.bodies.specs.Stopped.{Opens}
use Rattle.iterations.specs.Memory.{element_total}
use Rattle.iterations.specs.Loaded.{Loaded}
use Rattle.iterations.specs.LoadedLaws.{begins-next, begins-most}
use Rattle.iterations.specs.Runnable.{Performable, Runnable}

-- an array's elements are in the memory
inside-sum : (ns : List ℕ) (a x : ℕ) → x < get_or ns a 0 → begins ns a + x < sum ns
inside-sum ns a x h = omega (arith, begins-next ns a, begins-most ns (suc a))

-- STATEMENTS that each leave one number, and whose references are all in the memory
module _ (bs : List ℕ) (i n k : ℕ) where
  abbrev Reached : Reference → Type 0
  Reached r = Element bs i n r.array r.offset

  reads-within : (xs : List Item) → ((r : Reference) → Mem r (reads k xs) → Reached r) → ReadsWithin bs i n xs
  reads-within [] f = tt
  reads-within (read a o ∷ xs) f = (f (record { number = k; array = a; offset = o; stores = false }) (mhere refl), reads-within xs (λ r h. f r (mthere h)))
  reads-within (constant c ∷ xs) f = reads-within xs f
  reads-within (operation c ∷ xs) f = reads-within xs f

  statements-run : (b : List Statement) → ((s : Statement) → Mem s b → Works s.items 0) → ((r : Reference) → Mem r (references k b) → Reached r)
      → Runnable bs i n b
  statements-run [] w f s m = absurd (not-nil m)
  statements-run (z ∷ b) w f s (mhere e) =
      subst (Performable bs i n) (sym e) (record {
        works = w z (mhere refl);
        stores = f (destination k z) (mhere refl);
        reads = reads-within z.items (λ r h. f r (mthere (Memᴰ.append_left (references k b) h)));
      })
  statements-run (z ∷ b) w f s (mthere m) =
      statements-run b (λ y h. w y (mthere h)) (λ r h. f r (Memᴰ.append_right (destination k z ∷ reads k z.items) h)) s m

-- ITERATION i OF LOOP k, of a table that the store holds
module _ {t : Table} {cs : Store} {bs : List ℕ} (l : Loaded t cs bs) (k : ℕ) where
  module _ (i : ℕ) (here : Inside t (iteration k i)) where
    pub loaded-body : (loop t k).body ≡ statements_from cs (start_at cs k) (start_at cs (suc k) - start_at cs k)
    loaded-body = ap (λ (x : Loop). x.body) (loop-held l.holds k here.0)

    -- what the code asks of its rows and of i
    pub loaded-rows : (start_at cs (suc k) ≤ 576) × (i < 2 ^ 32) × Opens cs (start_at cs k) (start_at cs (suc k))
    loaded-rows = (
      few-rows l.holds (suc k) here.0,
      omega (arith, here.2, valid-last t l.valid k here.0),
      λ h. opening-held l.holds k here.0,
    )

    pub loaded-runnable : (n : ℕ) → n ≡ element_total t → Runnable bs i n (statements_from cs (start_at cs k) (start_at cs (suc k) - start_at cs k))
    loaded-runnable n long =
        subst (Runnable bs i n) loaded-body (statements-run bs i n k (loop t k).body (l.valid.each k here.0).works reached)
      where
        reached : (r : Reference) → Mem r (refs t k) → Element bs i n r.array r.offset
        reached r h =
            let v = l.valid.each k here.0 in
            let few : r.array < 16 = omega (arith, v.known r h, l.valid.few-arrays) in
            let w = v.within r h i here.1 here.2 in
            (few, w.0, omega (arith, l.based r.array (omega arith), inside-sum t.lengths r.array (i + r.offset - 255) w.1, long))
