-- What the code asks before it runs statements, of whatever table they are, or of none.
use Rattle.std.specs.Prelude.{ℕ, List}
use mathlib.Core.List.{Memᴰ as Mem}
use Rattle.model.specs.Table.{Statement}
use Rattle.grounds.specs.Accepted.{Works}
use Rattle.bodies.specs.Workable.{Element, ReadsWithin}

-- in iteration i, with arrays that begin at bs, in a memory of m elements
module _ (bs : List ℕ) (i m : ℕ) where
  -- the items of a statement leave one number, and all that it reads and stores is in the memory
  pub record Performable (s : Statement) : Type 0 where
    pub works : Works s.items 0
    pub stores : Element bs i m s.array s.offset
    pub reads : ReadsWithin bs i m s.items

  abbrev pub Runnable : List Statement → Type 0
  Runnable b = (s : Statement) → Mem s b → Performable s
