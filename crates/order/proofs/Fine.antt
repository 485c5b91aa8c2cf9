-- The same, where a turn is one step of an action: each processor has numbers of its own, and they share the memory. Assumes nothing.
use Rattle.std.specs.Prelude.{◌≡◌, refl, ◌≢◌, List, [], ◌∷◌, ℕ, suc}
use Rattle.std.proofs.Common.{sym, ◌∙◌, ap, inl, inr, ⊎_elim, arith}
use mathlib.Core.List.{Memᴰ as Mem}
use Rattle.order.specs.Lists.{put, put_same, put_other, put_self, put-twice, put-comm, before-right, before-total}
use Rattle.order.specs.Sequences.{Before, run_all}
use Rattle.order.specs.Reorder.{run_all-append, run_all-past, Commute}
use Rattle.order.specs.Machine.{Plan, InOrder, trace, start, Exhausts}
use Rattle.order.proofs.Machine.{complete-in-order}
use Rattle.order.specs.Plain.{Kept, Covers, in-order-covers, same_end}
use Rattle.order.proofs.Plain.{any-schedule}
use Rattle.order.proofs.Exists.{complete-exists}
use Rattle.order.specs.Steps.{number, steps, fine, mem-steps, steps-in-order}

-- `own u w m` and `mem u w m`: what the step `u` makes of the processor's own numbers `w` and of the memory `m`
module _ {U W M : Type 0} (own : U → W → M → W) (mem : U → W → M → M) where
  -- the steps of one action in a row
  abbrev pub in_row : List U → W × M → W × M
  in_row = run_all (λ u s. (own u s.0 s.1, mem u s.0 s.1))

  -- processor `b` does `u`
  abbrev pub act : ℕ → U → (ℕ → W) × M → (ℕ → W) × M
  act b u s = (put s.0 b (own u (s.0 b) s.1), mem u (s.0 b) s.1)

  -- two steps of two processors commute
  pub record Free (u v : U) : Type 0 where
    pub left-own : (w z : W) (m : M) → own u w (mem v z m) ≡ own u w m
    pub right-own : (w z : W) (m : M) → own v z (mem u w m) ≡ own v z m
    pub memory : (w z : W) (m : M) → mem u w (mem v z m) ≡ mem v z (mem u w m)

  free-sym : {u v : U} → Free u v → Free v u
  free-sym f = record { left-own = λ w z. f.right-own z w; right-own = λ w z. f.left-own z w; memory = λ w z m. sym (f.memory z w m) }

  act-commute : (a b : ℕ) {u v : U} → a ≢ b → Free u v → (s : (ℕ → W) × M) → act a u (act b v s) ≡ act b v (act a u s)
  act-commute a b {u} {v} n f (ws, m) =
      rw (
        put_other ws b a (own v (ws b) m) n,
        put_other ws a b (own u (ws a) m) (λ e. n (sym e)),
        f.left-own (ws a) (ws b) m,
        f.right-own (ws a) (ws b) m,
        f.memory (ws a) (ws b) m,
      )
      λ i. (put-comm ws b a (own v (ws b) m) (own u (ws a) m) (λ e. n (sym e)) i, mem v (ws b) (mem u (ws a) m))

  act-row : (b : ℕ) (l : List U) (ws : ℕ → W) (m : M) → run_all (act b) l (ws, m) ≡ (put ws b (in_row l (ws b, m)).0, (in_row l (ws b, m)).1)
  act-row b [] ws m = λ i. (sym (put_self ws b) i, m)
  act-row b (u ∷ l) ws m =
      let w = own u (ws b) m in
      act-row b l (put ws b w) (mem u (ws b) m)
      ∙ rw (put_same ws b w) (λ i. (put-twice ws b w (in_row l (w, mem u (ws b) m)).0 i, (in_row l (w, mem u (ws b) m)).1))

  -- a step of an action, by the action's processor
  abbrev pub does : {A : Type 0} → (A → ℕ) → A × ℕ × U → (ℕ → W) × M → (ℕ → W) × M
  does owner e = act (owner e.0) e.2

  -- `run x` is what the steps of `x` do in a row, from no numbers to no numbers
  module _ {A : Type 0} (parts : A → List U) (empty : W) (run : A → M → M)
      (whole : (x : A) (m : M) → in_row (parts x) (empty, m) ≡ (empty, run x m)) where
    act-whole : (b : ℕ) (x : A) (m : M) → run_all (act b) (parts x) (λ b. empty, m) ≡ (λ b. empty, run x m)
    act-whole b x m = act-row b (parts x) (λ b. empty) m ∙ rw (whole x m) (λ i. (put_self (λ b. empty) b i, run x m))

    -- actions commute if their steps do
    run-commute : (x y : A) → ((u v : U) → Mem u (parts x) → Mem v (parts y) → Free u v) → Commute run x y
    run-commute x y free m = ap (λ (s : (ℕ → W) × M). s.1) (sym (two 0 1 x y) ∙ past ∙ two 1 0 y x)
      where
        two : (a b : ℕ) (x y : A) → run_all (act a) (parts x) (run_all (act b) (parts y) (λ b. empty, m)) ≡ (λ b. empty, run x (run y m))
        two a b x y = rw (act-whole b y m) (act-whole a x (run y m))

        past : run_all (act 0) (parts x) (run_all (act 1) (parts y) (λ b. empty, m)) ≡ run_all (act 1) (parts y) (run_all (act 0) (parts x) (λ b. empty, m))
        past =
            run_all-past (act 1) (run_all (act 0) (parts x)) (parts y)
            (λ v k s. sym (run_all-past (act 0) (act 1 v) (parts x) (λ u j s. act-commute 1 0 (omega arith) (free-sym (free u v j k)) s) s))
            (λ b. empty, m)

    -- the steps of actions in a row do what the actions do
    does-number : (owner : A → ℕ) (x : A) (i : ℕ) (l : List U) (s : (ℕ → W) × M)
        → run_all (does owner) (number x i l) s ≡ run_all (act (owner x)) l s
    does-number owner x i [] s = refl
    does-number owner x i (u ∷ l) s = does-number owner x (suc i) l (act (owner x) u s)

    does-steps : (owner : A → ℕ) (l : List A) (m : M) → run_all (does owner) (steps parts l) (λ b. empty, m) ≡ (λ b. empty, run_all run l m)
    does-steps owner [] m = refl
    does-steps owner (x ∷ l) m =
        run_all-append (does owner) (number x 0 (parts x)) (steps parts l) (λ b. empty, m)
        ∙ rw (does-number owner x 0 (parts x) (λ b. empty, m), act-whole (owner x) x m) (does-steps owner l (run x m))

    module _ (p : Plan A) (L : List A) (all : Covers p L) (dep : A → A → Type 0)
        (free : (x y : A) → (dep x y → ⊥) → (u v : U) → Mem u (parts x) → Mem v (parts y) → Free u v)
        (legal : (x y : A) → dep x y → Before x y L → Kept p x y) where
      open p use {list, owner, phase, owned}

      -- in one phase, actions of two processors are independent
      kept-apart : {x y : A} → phase x ≡ phase y → owner x ≢ owner y → Kept p x y → ⊥
      kept-apart e n (inl k) = omega arith
      kept-apart {x} {y} e n (inr b) = n (sym (owned (owner x) y (before-right b)))

      free-apart : {x y : A} → Mem x L → Mem y L → phase x ≡ phase y → owner x ≢ owner y
          → {u v : U} → Mem u (parts x) → Mem v (parts y) → Free u v
      free-apart {x} {y} hx hy e n {u} {v} j k =
          ⊎_elim
          (λ q. absurd (n (ap owner q)))
          (⊎_elim
          (λ b. free x y (λ d. kept-apart e n (legal x y d b)) u v j k)
          (λ b. free-sym (free y x (λ d. kept-apart (sym e) (λ q. n (sym q)) (legal y x d b)) v u k j)))
          (before-total hx hy)

      pub any-fine-schedule : (bs : List ℕ) → Exhausts (fine parts p) bs → (m : M)
          → run_all (does owner) (trace (fine parts p) bs start) (λ b. empty, m) ≡ (λ b. empty, run_all run L m)
      any-fine-schedule bs h m =
          let (cs, k) = complete-exists p in
          same_end (does owner) (fine parts p) o (steps-in-order parts p (complete-in-order p cs k)) commute (λ b. empty, m)
          ∙ does-steps owner (trace p cs start) m
          ∙ λ i. (λ b. empty, any-schedule run p L all dep (λ x y n. run-commute x y (free x y n)) legal cs k m i)
        where
          t : List (A × ℕ × U)
          t = trace (fine parts p) bs start

          o : InOrder (fine parts p) t
          o = complete-in-order (fine parts p) bs h

          in-L : (e : A × ℕ × U) → Mem e t → Mem e.0 L × Mem e.2 (parts e.0)
          in-L e k =
              let (a, b) = mem-steps parts (list (owner e.0)) (((in-order-covers (fine parts p) o).same e).0 k) in
              ((all.same e.0).1 a, b)

          commute : (e f : A × ℕ × U) → Mem e t → Mem f t → phase e.0 ≡ phase f.0 → owner e.0 ≢ owner f.0
              → Commute (does owner) e f
          commute e f j k q n =
              let (a, b) = in-L e j in
              let (c, d) = in-L f k in
              act-commute (owner e.0) (owner f.0) n (free-apart a c q n b d)
