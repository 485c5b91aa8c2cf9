-- The sizes of the columns in which a phase's ranges are kept.
use Rattle.std.specs.Prelude.{ℕ, ◌≡◌, List, length}

pub record Sized (froms pasts shifts : List ℕ) : Type 0 where
  pub froms_sized : length froms ≡ 16
  pub pasts_sized : length pasts ≡ 16
  pub shifts_sized : length shifts ≡ 16
