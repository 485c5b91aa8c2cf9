-- Sequences of actions: which stands before which, that none stands twice, several one after the other, and what running one leaves.
use Rattle.std.specs.Prelude.{ℕ, zero, suc, ◌≡◌, List, [], ◌∷◌, ◌++◌}
use mathlib.Core.List.{Memᴰ as Mem}

-- `Before x y l`: an `x` stands in `l` before a `y`
pub data Before {A : Type 0} (x y : A) : List A → Type 0 where
  bhere : {z : A} {l : List A} → x ≡ z → Mem y l → Before x y (z ∷ l)
  bthere : {z : A} {l : List A} → Before x y l → Before x y (z ∷ l)

-- nothing stands in it twice
abbrev pub NoDup : {A : Type 0} → List A → Type 0
NoDup {A} l = (x : A) → Before x x l → ⊥

-- `f 0 ++ .. ++ f (n - 1)`
abbrev pub joined : {A : Type 0} → ℕ → (ℕ → List A) → List A
joined zero f = []
joined (suc n) f = joined n f ++ f n

-- the actions in order, each from what the one before left
abbrev pub run_all : {A S : Type 0} → (A → S → S) → List A → S → S
run_all run [] s = s
run_all run (x ∷ l) s = run_all run l (run x s)
