-- Of a plan by hand only as many bytes are looked at as it has; without one, none.
use Rattle.std.specs.Prelude.{ℕ, ◌<◌, ◌≡◌, get_or}
use mathlib.Core.List.{List}
use Rattle.plans.specs.Plans.{Settings, bad_processors, bad_number, planned, planned_for}
use Rattle.answers.proofs.Alike.{other_bytes, fitting-alike}

module _ (s : List ℕ) (w : Settings) (bs : List ℕ) (alike : (i : ℕ) → i < w.size → get_or w.plan i 0 ≡ get_or bs i 0) where
  pub bytes-behind : planned s w ≡ planned s (other_bytes w bs)
  unfolding planned
  bytes-behind = fitting-alike s w bs alike (bad_processors w)

  pub bytes-behind-named : (b : ℕ) → planned_for s w b ≡ planned_for s (other_bytes w bs) b
  unfolding planned_for
  bytes-behind-named b = fitting-alike s w bs alike (bad_number w b)
