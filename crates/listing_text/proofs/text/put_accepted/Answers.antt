use native.Mathlib.Omega.{arith}
use Rattle.listing_text.proofs.Putting.{seven}
use Rattle.listing_text.proofs.text.put_accepted.Goals as goal

pub returns : goal.returns
returns c =
    let put-version = c.put_version-at in
    let put-counts = c.put_counts-at in (
      seven c.args.l c.args.bytes put-version.ensures.0 put-counts.ensures.0
          c.put_line.ensures.0,
      omega arith,
    )
