use Rattle.std.proofs.Common.{rules}
use Rattle.text.specs.Puts.{puts-first}
use Rattle.text.specs.Written.{put_whole}
use Rattle.listing.specs.Listing.{refusal_line}
use Rattle.listing.proofs.write_refusal.Goals as goal

pub returns : goal.returns
unfolding refusal_line
returns c =
    let w = put_whole (puts-first c.new-lines.ensures.bytes c.new-lines.ensures.place c.put_line.ensures) in
    search rules
