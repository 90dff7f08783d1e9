use mathlib.Core.Path.{◌∙◌, ap, sym}
use Rattle.listing_text.specs.Lines.{listing, lines_of}
use Rattle.listing_text.proofs.put_listing.Goals as goal

pub returns-in-Ok : goal.returns-in-Ok
unfolding listing
returns-in-Ok c =
    let «open» = c.open in
    let put-accepted = c.put_accepted in (
      rw (ap (lines_of c.args.m.now) (sym «open».ensures.0 ∙ c.in-Ok.is)) put-accepted.ensures.0,
      put-accepted.ensures.1,
    )

pub returns-in-Err : goal.returns-in-Err
unfolding listing
returns-in-Err c =
    let «open» = c.open in
    let Put-refused = c.put_refused in (
      rw (ap (lines_of c.args.m.now) (sym «open».ensures.0 ∙ c.in-Err.is)) Put-refused.ensures.0,
      Put-refused.ensures.1,
    )
