use native.Mathlib.Omega.{arith}
use Rattle.listing_text.specs.Lines.{number_line, ascii}
use Rattle.listing_text.proofs.Putting.{put_both}
use Rattle.listing_text.proofs.text.put_counts.Goals as goal

pub returns : goal.returns
returns c =
    let put-line = c.put_line-next in
    let put-line2 = c.put_line-next-2 in
    let put-line3 = c.put_line-next-3 in
    let put-line4 = c.put_line-next-4 in (
      put_both (number_line (ascii "instruments ") c.args.instruments) _ put-line.ensures.0
          (put_both (number_line (ascii "samples ") c.args.samples) _ put-line2.ensures.0
          (put_both (number_line (ascii "songs ") c.args.songs) _ put-line3.ensures.0
          (put_both (number_line (ascii "patterns ") c.args.patterns) _ put-line4.ensures.0 c.put_line.ensures.0))),
      omega arith,
    )
