-- What kept ranges are before any is put: the columns hold 0 everywhere, so each range is from 0 up to 0 and has no index.
use Rattle.std.specs.Prelude.{◌≡◌, replicate}
use Rattle.ranges.specs.declared.phase_ranges.PhaseRanges.{PhaseRanges}

abbrev pub Empty : PhaseRanges → Type 0
Empty x = (x.froms ≡ replicate 16 0) × (x.pasts ≡ replicate 16 0) × (x.shifts ≡ replicate 16 0)
